use Rattle.std.proofs.Common.{ℕ, ◌<◌}
use Rattle.osq_value.proofs.NamedTables.{Misses}
use Rattle.osq_value.proofs.catalogue.table_of.Given as goal

abbrev pub invariant-loop-place : goal.invariant-loop-place
invariant-loop-place l = (k : ℕ) → k < l.place → Misses l.name k
