use Rattle.std.proofs.Common.{◌≡◌, ◌++◌, drop, map}
use Rattle.sql_tree.specs.Select.{ref_of}
use Rattle.sql_scope.specs.Mentions.{mentions_of_sources}
use Rattle.sql_scope.proofs.mention.add_sources.Given as goal

abbrev pub invariant-loop-source : goal.invariant-loop-source
invariant-loop-source l = record { counted : l.reach ≡ l.source-index; here : l.found.items ++ mentions_of_sources l.reach (map ref_of (drop l.source-index l.sources)) ≡ l.initial.found.items ++ mentions_of_sources 0 (map ref_of l.sources) }
