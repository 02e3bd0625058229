use Rattle.std.proofs.Common.{map, take}
use Rattle.sql_query.specs.View.{expr_of}
use Rattle.sql_groups.specs.Grouping.{FoldsKeys}
use Rattle.sql_groups.proofs.grouped.groups_of_keys.Given as goal

abbrev pub invariant-loop-row : goal.invariant-loop-row
invariant-loop-row l = FoldsKeys (map (λ expr. expr_of expr.now) l.exprs) (map expr_of l.condition.parts) l.items (take l.row-index l.rows) l.found
