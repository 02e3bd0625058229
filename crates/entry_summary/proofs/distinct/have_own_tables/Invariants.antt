use Rattle.std.proofs.Common.{◌↔◌, drop}
use Rattle.entry_summary.specs.Distinct.{HaveOwnTables}
use Rattle.entry_summary.proofs.distinct.have_own_tables.Given as goal

abbrev pub invariant-loop-at : goal.invariant-loop-at
invariant-loop-at l = HaveOwnTables (drop l.at l.tables) ↔ HaveOwnTables l.tables
