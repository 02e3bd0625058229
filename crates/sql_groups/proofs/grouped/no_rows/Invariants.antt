use Rattle.std.proofs.Common.{take, []}
use Rattle.sql_groups.specs.Grouping.{AreKnown}
use Rattle.sql_groups.proofs.grouped.no_rows.Given as goal

abbrev pub invariant-loop-item : goal.invariant-loop-item
invariant-loop-item l = AreKnown (take l.item-index l.items) [] l.group
