use Rattle.std.proofs.Common.{◌≡◌, List, map, take}
use Rattle.osq_value.specs.declared.value.Value.{Value}
use Rattle.sql_meaning.specs.Worths.{worths}
use Rattle.sql_groups.specs.declared.items.GroupItem.{GroupItem}
use Rattle.sql_groups.specs.Folding.{item_over}
use Rattle.sql_groups.specs.Grouping.{AreKnown}
use Rattle.sql_groups.proofs.grouped.result_row.Given as goal

abbrev pub invariant-loop-so_far : goal.invariant-loop-so_far
invariant-loop-so_far l = (items : List GroupItem) (rows : List (List Value)) → AreKnown items rows l.group → worths l.row ≡ map (λ item. item_over item rows) (take l.so_far-index items)
