use Rattle.std.proofs.Common.{◌≡◌, List, drop, filter, map, take}
use Rattle.osq_value.specs.declared.value.Value.{Value}
use Rattle.sql_meaning.specs.Worths.{worths}
use Rattle.sql_groups.specs.declared.items.GroupItem.{GroupItem}
use Rattle.sql_groups.specs.Grouping.{IsFolded}
use Rattle.sql_groups.specs.Having.{over_all, tests_hold}
use Rattle.sql_groups.proofs.having.kept_rows.Given as goal

abbrev pub invariant-loop-group : goal.invariant-loop-group
invariant-loop-group l =
    (items : List GroupItem) (lists : List (List (List Value))) → IsFolded items lists l.groups
    → map worths l.rows ≡ map (take l.count) (filter (λ values. tests_hold l.tests (drop l.count values)) (map (over_all items) (take l.group-index lists)))
