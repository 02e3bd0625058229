use Rattle.sql_names.proofs.Walks.{ands_then}
use Rattle.sql_names.proofs.conditions.are_ands.Goals as goal

pub loop-step-preserved : goal.loop-step-preserved
loop-step-preserved c = ands_then _ _ c.args.steps.now c.loop-step.step-index c.step-item.result c.loop-step-test.true c.step-item.is c.loop-step.invariant c.is_and_also-are.ensures
