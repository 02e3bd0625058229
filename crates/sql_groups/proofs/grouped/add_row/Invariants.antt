use Rattle.std.proofs.Common.{List, ◌++◌, ◌∷◌, []}
use Rattle.osq_value.specs.declared.value.Value.{Value}
use Rattle.sql_meaning.specs.Lent.{values_in}
use Rattle.sql_groups.specs.declared.items.GroupItem.{GroupItem}
use Rattle.sql_groups.specs.Folding.{HasFolded}
use Rattle.sql_groups.specs.Grouping.{AreKnown}
use Rattle.sql_groups.proofs.Zipped.{Turning}
use Rattle.sql_groups.proofs.grouped.add_row.Given as goal

abbrev pub invariant-loop-at : goal.invariant-loop-at
invariant-loop-at l = (items : List GroupItem) (rows : List (List Value)) → AreKnown items rows l.initial.group → Turning (HasFolded rows) (HasFolded (rows ++ values_in l.row ∷ [])) l.at items l.group
