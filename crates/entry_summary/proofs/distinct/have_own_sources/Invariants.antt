use Rattle.std.proofs.Common.{◌↔◌, drop}
use Rattle.entry_summary.specs.Distinct.{HaveOwnSources}
use Rattle.entry_summary.proofs.distinct.have_own_sources.Given as goal

abbrev pub invariant-loop-at : goal.invariant-loop-at
invariant-loop-at l = HaveOwnSources (drop l.at l.taken) ↔ HaveOwnSources l.taken
