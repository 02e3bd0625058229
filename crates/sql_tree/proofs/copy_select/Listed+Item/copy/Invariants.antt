use Rattle.std.proofs.Common.{◌≡◌, take, map}
use Rattle.sql_tree.specs.Select.{item_of}
use Rattle.sql_tree.proofs.copy_select.Listed+Item.copy.Given as goal

abbrev pub invariant-loop-item : goal.invariant-loop-item
invariant-loop-item l = map item_of l.copies ≡ map item_of (take l.item-index l.item-items)
