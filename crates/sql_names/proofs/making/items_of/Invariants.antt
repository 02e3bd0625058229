use Rattle.std.proofs.Common.{◌≡◌, map}
use Rattle.sql_query.specs.Resolved.{result_of}
use Rattle.sql_names.specs.Making.{result_tree}
use Rattle.sql_scope.specs.Shown.{shown_of}
use Rattle.sql_names.proofs.making.items_of.Given as goal

abbrev pub invariant-loop-column : goal.invariant-loop-column
invariant-loop-column l = map result_of l.items ≡ map result_tree (map shown_of l.yielded)
