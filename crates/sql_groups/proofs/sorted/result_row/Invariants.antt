use Rattle.std.proofs.Common.{◌≡◌, map, take}
use Rattle.sql_query.specs.Resolved.{result_of}
use Rattle.sql_groups.specs.Sorted.{columns}
use Rattle.sql_groups.proofs.sorted.result_row.Given as goal

abbrev pub invariant-loop-item : goal.invariant-loop-item
invariant-loop-item l = l.made ≡ columns (map result_of (take l.item-index l.items)) l.row
