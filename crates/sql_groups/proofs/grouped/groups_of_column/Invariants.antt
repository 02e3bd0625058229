use Rattle.std.proofs.Common.{map, take}
use Rattle.sql_query.specs.View.{expr_of}
use Rattle.sql_groups.specs.Grouping.{Folds}
use Rattle.sql_groups.proofs.grouped.groups_of_column.Given as goal

abbrev pub invariant-loop-row : goal.invariant-loop-row
invariant-loop-row l = Folds l.place (map expr_of l.condition.parts) l.items (take l.row-index l.rows) l.found
