use Rattle.sql_planner.proofs.Fitting.{steps-within, all-within}
use Rattle.sql_planner.proofs.within.+within.Goals as goal

pub are_steps_within-loop-at-preserved : goal.are_steps_within-loop-at-preserved
are_steps_within-loop-at-preserved t c =
    steps-within c.args.width c.args.steps.now c.loop-at.at c.index-steps-at.result c.loop-at-test.true c.index-steps-at.is c.loop-at.invariant (c.is_step_within.ensures c.if-not-is_step_within.false)

pub are_within-loop-at-preserved : goal.are_within-loop-at-preserved
are_within-loop-at-preserved t c =
    all-within c.args.width c.args.exprs.now c.loop-at.at c.index-exprs-at.result c.loop-at-test.true c.index-exprs-at.is c.loop-at.invariant (c.is_within.ensures c.if-not-is_within.false)
