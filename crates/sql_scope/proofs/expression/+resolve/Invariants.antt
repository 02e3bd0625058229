use Rattle.std.proofs.Common.{◌≡◌, take}
use Rattle.sql_tree.specs.View.{steps_of, trees_of}
use Rattle.sql_query.specs.View.{exprs_of}
use Rattle.sql_query.specs.View.{steps_of as expr_steps}
use Rattle.sql_scope.specs.Naming.{expr_steps_of}
use Rattle.sql_scope.specs.Naming.{exprs_of as exprs_among}
use Rattle.sql_scope.specs.Shown.{names_of}
use Rattle.sql_scope.proofs.expression.+resolve.Given as goal

abbrev pub invariant-resolve_nodes-loop-node : goal.invariant-resolve_nodes-loop-node
invariant-resolve_nodes-loop-node l = exprs_of l.resolved.items ≡ exprs_among (names_of l.names) (trees_of (take l.node-index l.nodes))

abbrev pub invariant-resolve_steps-loop-step : goal.invariant-resolve_steps-loop-step
invariant-resolve_steps-loop-step l = expr_steps l.resolved.items ≡ expr_steps_of (names_of l.names) (steps_of (take l.step-index l.steps))
