use Rattle.std.proofs.Common.{◌≡◌, drop, map}
use Rattle.sql_tree.specs.View.{tree_of}
use Rattle.sql_names.specs.Kinds.{key_wrong}
use Rattle.sql_names.specs.Least.{lesser, least}
use Rattle.sql_scope.specs.Shown.{shown_of}
use Rattle.sql_names.proofs.aggregates.keys_wrong.Given as goal

abbrev pub invariant-loop-key : goal.invariant-loop-key
invariant-loop-key l = lesser l.place (least (map (key_wrong (map shown_of l.shown)) (map tree_of (drop l.key-index l.keys)))) ≡ least (map (key_wrong (map shown_of l.shown)) (map tree_of l.keys))
