use Rattle.std.proofs.Common.{◌≡◌, ◌++◌, take, map}
use Rattle.sql_tree.specs.View.{steps_of}
use Rattle.sql_scope.specs.Naming.{expr_of as expr_among}
use Rattle.sql_names.specs.Results.{rights_of}
use Rattle.sql_scope.specs.Shown.{names_of}
use Rattle.sql_query.specs.View.{expr_of}
use Rattle.sql_names.proofs.conditions.push_rights.Given as goal

abbrev pub invariant-loop-step : goal.invariant-loop-step
invariant-loop-step l = map expr_of l.parts.items ≡ map expr_of l.initial.parts.items ++ map (expr_among (names_of l.names)) (rights_of (steps_of (take l.step-index l.steps)))
