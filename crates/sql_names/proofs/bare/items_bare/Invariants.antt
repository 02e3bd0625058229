use Rattle.std.proofs.Common.{◌≡◌, drop, map}
use Rattle.sql_tree.specs.Select.{item_of}
use Rattle.sql_names.specs.Bare.{item_bare}
use Rattle.sql_names.specs.Least.{lesser, least}
use Rattle.sql_scope.specs.Shown.{names_of}
use Rattle.sql_query.specs.View.{expr_of}
use Rattle.sql_names.proofs.bare.items_bare.Given as goal

abbrev pub invariant-loop-item : goal.invariant-loop-item
invariant-loop-item l = lesser l.place (least (map (item_bare (names_of l.names) (map expr_of l.keys)) (map item_of (drop l.item-index l.items)))) ≡ least (map (item_bare (names_of l.names) (map expr_of l.keys)) (map item_of l.items))
