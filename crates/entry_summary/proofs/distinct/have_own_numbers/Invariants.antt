use Rattle.std.proofs.Common.{◌↔◌, drop}
use Rattle.entry_summary.specs.Distinct.{HaveOwnNumbers}
use Rattle.entry_summary.proofs.distinct.have_own_numbers.Given as goal

abbrev pub invariant-loop-at : goal.invariant-loop-at
invariant-loop-at l = HaveOwnNumbers (drop l.at l.runs) ↔ HaveOwnNumbers l.runs
