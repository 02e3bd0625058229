use Rattle.std.proofs.Common.{◌++◌, List, map, take}
use Rattle.osq_value.specs.declared.value.Value.{Value}
use Rattle.sql_query.specs.View.{expr_of}
use Rattle.sql_meaning.specs.Lent.{values_in}
use Rattle.sql_groups.specs.declared.items.GroupItem.{GroupItem}
use Rattle.sql_groups.specs.Grouping.{AreKnown, kept_values}
use Rattle.sql_groups.proofs.grouped.add_all.Given as goal

abbrev pub invariant-loop-row : goal.invariant-loop-row
invariant-loop-row l =
    (items : List GroupItem) (before : List (List Value)) → AreKnown items (kept_values (map expr_of l.condition.parts) before) l.initial.group
    → AreKnown items (kept_values (map expr_of l.condition.parts) (before ++ map values_in (take l.row-index l.rows))) l.group
