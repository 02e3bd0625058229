use Rattle.std.proofs.Common.{◌≡◌, ◌++◌, drop, map}
use Rattle.sql_tree.specs.Select.{item_of}
use Rattle.sql_scope.specs.Mentions.{mentions_of_items}
use Rattle.sql_scope.proofs.mention.add_items.Given as goal

abbrev pub invariant-loop-item : goal.invariant-loop-item
invariant-loop-item l = l.found.items ++ mentions_of_items (map item_of (drop l.item-index l.items)) ≡ l.initial.found.items ++ mentions_of_items (map item_of l.items)
