use Rattle.sql_names.proofs.Bares.{steps_bare, trees_bare}
use Rattle.sql_names.proofs.bare.+bare.Goals as goal

pub bare_nodes-loop-node-preserved : goal.bare_nodes-loop-node-preserved
bare_nodes-loop-node-preserved t c = trees_bare _ _ c.loop-node.place _ c.in_ok-bare_node.field-0 c.args.nodes.now c.loop-node.node-index c.node-item.result c.loop-node-test.true c.node-item.is c.loop-node.invariant c.lesser-place.ensures c.in_ok-bare_node.ensures

pub bare_steps-loop-step-preserved : goal.bare_steps-loop-step-preserved
bare_steps-loop-step-preserved t c = steps_bare _ _ c.loop-step.place _ c.in_ok-bare_step.field-0 c.args.steps.now c.loop-step.step-index c.step-item.result c.loop-step-test.true c.step-item.is c.loop-step.invariant c.lesser-place.ensures c.in_ok-bare_step.ensures
