use Rattle.std.proofs.Common.{◌≡◌, ◌++◌, take, map}
use Rattle.sql_names.specs.Making.{joined_name}
use Rattle.sql_scope.specs.Shown.{names_of}
use Rattle.sql_query.specs.View.{expr_of}
use Rattle.sql_names.proofs.making.push_equalities.Given as goal

abbrev pub invariant-loop-name : goal.invariant-loop-name
invariant-loop-name l = map expr_of l.parts.items ≡ map expr_of l.initial.parts.items ++ map (joined_name (names_of l.names) l.number) (take l.name-index l.joined)
