use Rattle.std.proofs.Common.{◌≡◌, ◌+◌, drop}
use Rattle.osq_config.specs.Counts.{packed_count, query_count}
use Rattle.osq_config.proofs.read.held_queries.Given as goal

abbrev pub invariant-loop-pack : goal.invariant-loop-pack
invariant-loop-pack l = l.count + packed_count (drop l.pack-index l.packs) ≡ query_count l.schedule l.packs
