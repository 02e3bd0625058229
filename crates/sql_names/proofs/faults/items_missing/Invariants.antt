use Rattle.std.proofs.Common.{◌≡◌, drop, map}
use Rattle.sql_tree.specs.Select.{item_of}
use Rattle.sql_names.specs.Kinds.{item_missing}
use Rattle.sql_names.specs.Least.{lesser, least}
use Rattle.sql_names.proofs.faults.items_missing.Given as goal

abbrev pub invariant-loop-item : goal.invariant-loop-item
invariant-loop-item l = lesser l.place (least (map (item_missing l.scope) (map item_of (drop l.item-index l.items)))) ≡ least (map (item_missing l.scope) (map item_of l.items))
