use Rattle.sql_names.proofs.Walks.{rights_then}
use Rattle.sql_names.proofs.conditions.push_rights.Goals as goal

pub loop-step-preserved : goal.loop-step-preserved
loop-step-preserved c = rights_then _ _ _ _ c.args.steps.now c.loop-step.step-index c.step-item.result c.loop-step-test.true c.step-item.is c.loop-step.invariant c.in_ok-push_right.ensures
