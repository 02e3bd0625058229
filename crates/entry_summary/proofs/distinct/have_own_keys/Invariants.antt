use Rattle.std.proofs.Common.{◌↔◌, drop}
use Rattle.entry_model.specs.Reserved.{HaveOwnKeys}
use Rattle.entry_summary.proofs.distinct.have_own_keys.Given as goal

abbrev pub invariant-loop-at : goal.invariant-loop-at
invariant-loop-at l = HaveOwnKeys (drop l.at l.runs) ↔ HaveOwnKeys l.runs
