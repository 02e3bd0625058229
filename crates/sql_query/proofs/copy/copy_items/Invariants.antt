use Rattle.std.proofs.Common.{◌≡◌, take, map}
use Rattle.sql_query.specs.Resolved.{result_of}
use Rattle.sql_query.proofs.copy.copy_items.Given as goal

abbrev pub invariant-loop-item : goal.invariant-loop-item
invariant-loop-item l = map result_of l.copies ≡ map result_of (take l.item-index l.items)
