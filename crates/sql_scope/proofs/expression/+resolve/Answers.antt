use Rattle.sql_scope.proofs.Made.{steps_made, exprs_made}
use Rattle.sql_scope.proofs.expression.+resolve.Goals as goal

pub resolve_nodes-loop-node-preserved : goal.resolve_nodes-loop-node-preserved
resolve_nodes-loop-node-preserved t c = exprs_made _ c.loop-node.resolved.items _ c.in_ok-resolve_node.field-0 c.args.nodes.now c.loop-node.node-index c.node-item.result c.loop-node-test.true c.node-item.is c.loop-node.invariant c.in_ok-push.ensures.items c.in_ok-resolve_node.ensures

pub resolve_steps-loop-step-preserved : goal.resolve_steps-loop-step-preserved
resolve_steps-loop-step-preserved t c = steps_made _ c.loop-step.resolved.items _ c.in_ok-resolve_step.field-0 c.args.steps.now c.loop-step.step-index c.step-item.result c.loop-step-test.true c.step-item.is c.loop-step.invariant c.in_ok-push.ensures.items c.in_ok-resolve_step.ensures
