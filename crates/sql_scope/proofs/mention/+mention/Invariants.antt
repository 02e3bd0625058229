use Rattle.std.proofs.Common.{◌≡◌, ◌++◌, take}
use Rattle.sql_tree.specs.View.{steps_of, trees_of}
use Rattle.sql_scope.specs.Mentions.{mentions_of_steps, mentions_of_trees}
use Rattle.sql_scope.proofs.mention.+mention.Given as goal

abbrev pub invariant-add_nodes-loop-node : goal.invariant-add_nodes-loop-node
invariant-add_nodes-loop-node l = l.found.items ≡ l.initial.found.items ++ mentions_of_trees l.spot.clause l.spot.is_inside (trees_of (take l.node-index l.nodes))

abbrev pub invariant-add_steps-loop-step : goal.invariant-add_steps-loop-step
invariant-add_steps-loop-step l = l.found.items ≡ l.initial.found.items ++ mentions_of_steps l.spot.clause l.spot.is_inside (steps_of (take l.step-index l.steps))
