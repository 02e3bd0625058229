use Rattle.std.proofs.Common.{◌≡◌, ◌++◌, drop, map}
use Rattle.sql_tree.specs.Select.{item_of}
use Rattle.sql_names.specs.Results.{results}
use Rattle.sql_scope.specs.Shown.{shown_of, names_of}
use Rattle.sql_names.proofs.results.results_of.Given as goal

abbrev pub invariant-loop-item : goal.invariant-loop-item
invariant-loop-item l = map shown_of l.shown.items ++ results (names_of l.names) (map item_of (drop l.item-index l.items)) ≡ results (names_of l.names) (map item_of l.items)
