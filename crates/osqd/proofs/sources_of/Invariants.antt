use Rattle.std.proofs.Common.{◌≡◌, vec_len}
use Rattle.osqd.proofs.sources_of.Given as goal

abbrev pub invariant-loop-source : goal.invariant-loop-source
invariant-loop-source g l = vec_len l.sources ≡ l.source-index
