use Rattle.sql_scope.proofs.Walks.{mentions_then, mentions_and}
use Rattle.sql_scope.proofs.mention.+mention.Goals as goal

pub add_nodes-loop-node-preserved : goal.add_nodes-loop-node-preserved
add_nodes-loop-node-preserved t c = mentions_and _ _ _ _ _ c.args.nodes.now c.loop-node.node-index c.node-item.result c.loop-node-test.true c.node-item.is c.loop-node.invariant c.in_ok-add_node.ensures

pub add_steps-loop-step-preserved : goal.add_steps-loop-step-preserved
add_steps-loop-step-preserved t c = mentions_then _ _ _ _ _ c.args.steps.now c.loop-step.step-index c.step-item.result c.loop-step-test.true c.step-item.is c.loop-step.invariant c.in_ok-add_step.ensures
