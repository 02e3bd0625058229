use Rattle.std.proofs.Common.{◌≡◌, take, map}
use Rattle.sql_tree.specs.View.{steps_of, trees_of}
use Rattle.sql_names.specs.Bare.{bare_steps, bare_trees}
use Rattle.sql_scope.specs.Shown.{names_of}
use Rattle.sql_query.specs.View.{expr_of}
use Rattle.sql_names.proofs.bare.+bare.Given as goal

abbrev pub invariant-bare_nodes-loop-node : goal.invariant-bare_nodes-loop-node
invariant-bare_nodes-loop-node l = l.place ≡ bare_trees (names_of l.names) (map expr_of l.keys) (trees_of (take l.node-index l.nodes))

abbrev pub invariant-bare_steps-loop-step : goal.invariant-bare_steps-loop-step
invariant-bare_steps-loop-step l = l.place ≡ bare_steps (names_of l.names) (map expr_of l.keys) (steps_of (take l.step-index l.steps))
