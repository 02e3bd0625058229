use Rattle.std.proofs.Common.{map, take}
use Rattle.sql_query.specs.View.{expr_of}
use Rattle.sql_groups.specs.Different.{HasFound}
use Rattle.sql_groups.proofs.different.different_by_key.Given as goal

abbrev pub invariant-loop-row : goal.invariant-loop-row
invariant-loop-row l = HasFound l.place (map expr_of l.condition.parts) (take l.row-index l.rows) l.found
