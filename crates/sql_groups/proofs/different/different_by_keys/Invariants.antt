use Rattle.std.proofs.Common.{map, take}
use Rattle.sql_query.specs.View.{expr_of}
use Rattle.sql_groups.specs.Different.{HasFoundKeys}
use Rattle.sql_groups.proofs.different.different_by_keys.Given as goal

abbrev pub invariant-loop-row : goal.invariant-loop-row
invariant-loop-row l = HasFoundKeys (map (λ expr. expr_of expr.now) l.exprs) (map expr_of l.condition.parts) (take l.row-index l.rows) l.found
