use Rattle.std.proofs.Common.{◌≡◌, ◌++◌, drop, map}
use Rattle.sql_tree.specs.View.{tree_of}
use Rattle.sql_scope.specs.Mentions.{mentions_of_keys}
use Rattle.sql_scope.proofs.mention.add_keys.Given as goal

abbrev pub invariant-loop-key : goal.invariant-loop-key
invariant-loop-key l = l.found.items ++ mentions_of_keys (map tree_of (drop l.key-index l.keys)) ≡ l.initial.found.items ++ mentions_of_keys (map tree_of l.keys)
