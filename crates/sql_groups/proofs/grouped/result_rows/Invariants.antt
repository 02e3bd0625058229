use Rattle.std.proofs.Common.{◌≡◌, List, map, take}
use Rattle.osq_value.specs.declared.value.Value.{Value}
use Rattle.sql_meaning.specs.Worths.{worths}
use Rattle.sql_groups.specs.declared.items.GroupItem.{GroupItem}
use Rattle.sql_groups.specs.Folding.{item_over}
use Rattle.sql_groups.specs.Grouping.{IsFolded}
use Rattle.sql_groups.proofs.grouped.result_rows.Given as goal

abbrev pub invariant-loop-group : goal.invariant-loop-group
invariant-loop-group l = (items : List GroupItem) (lists : List (List (List Value))) → IsFolded items lists l.groups → map worths l.rows ≡ map (λ rows. map (λ item. item_over item rows) items) (take l.group-index lists)
