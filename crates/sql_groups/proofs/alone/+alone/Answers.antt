use Rattle.sql_groups.proofs.Lonely.{steps-alone, all-alone}
use Rattle.sql_groups.proofs.alone.+alone.Goals as goal

pub are_steps_alone-loop-at-preserved : goal.are_steps_alone-loop-at-preserved
are_steps_alone-loop-at-preserved t c =
    steps-alone c.args.steps.now c.loop-at.at c.index-steps-at.result c.loop-at-test.true c.index-steps-at.is c.loop-at.invariant (c.is_step_alone.ensures c.if-not-is_step_alone.false)

pub are_alone-loop-at-preserved : goal.are_alone-loop-at-preserved
are_alone-loop-at-preserved t c =
    all-alone c.args.exprs.now c.loop-at.at c.index-exprs-at.result c.loop-at-test.true c.index-exprs-at.is c.loop-at.invariant (c.is_alone.ensures c.if-not-is_alone.false)
