use Rattle.std.proofs.Common.{◌≡◌, drop, map}
use Rattle.sql_tree.specs.View.{tree_of}
use Rattle.sql_names.specs.Kinds.{number_missing}
use Rattle.sql_names.specs.Least.{lesser, least}
use Rattle.sql_names.proofs.faults.keys_missing.Given as goal

abbrev pub invariant-loop-key : goal.invariant-loop-key
invariant-loop-key l = lesser l.place (least (map (number_missing l.count) (map tree_of (drop l.key-index l.keys)))) ≡ least (map (number_missing l.count) (map tree_of l.keys))
