use Rattle.std.proofs.Common.{◌≡◌, drop, map}
use Rattle.sql_tree.specs.Select.{item_of}
use Rattle.sql_names.specs.Kinds.{item_unknown}
use Rattle.sql_names.specs.Least.{lesser, least}
use Rattle.sql_scope.specs.Shown.{names_of}
use Rattle.sql_names.proofs.faults.items_unknown.Given as goal

abbrev pub invariant-loop-item : goal.invariant-loop-item
invariant-loop-item l = lesser l.place (least (map (item_unknown (names_of l.names)) (map item_of (drop l.item-index l.items)))) ≡ least (map (item_unknown (names_of l.names)) (map item_of l.items))
