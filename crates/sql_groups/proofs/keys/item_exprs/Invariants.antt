use Rattle.std.proofs.Common.{◌≡◌, map, take}
use Rattle.sql_query.specs.View.{expr_of}
use Rattle.sql_query.specs.Resolved.{result_of}
use Rattle.sql_groups.proofs.keys.item_exprs.Given as goal

abbrev pub invariant-loop-item : goal.invariant-loop-item
invariant-loop-item l = map (λ expr. expr_of expr.now) l.made ≡ map (λ item. item.expr) (map result_of (take l.item-index l.items))
