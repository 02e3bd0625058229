use Rattle.std.proofs.Common.{take, ◌∷◌, []}
use Rattle.sql_meaning.specs.Lent.{values_in}
use Rattle.sql_groups.specs.Grouping.{AreKnown}
use Rattle.sql_groups.proofs.grouped.begun.Given as goal

abbrev pub invariant-loop-item : goal.invariant-loop-item
invariant-loop-item l = AreKnown (take l.item-index l.items) (values_in l.row ∷ []) l.group
