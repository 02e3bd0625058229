use Rattle.std.proofs.Common.{◌≡◌, fold, take}
use Rattle.kept_tables.specs.Sealing.{with_entry}
use Rattle.kept_tables.proofs.sealing.changes_of.Given as goal

abbrev pub invariant-loop-entry : goal.invariant-loop-entry
invariant-loop-entry l = l.sealing ≡ fold with_entry l.initial.sealing (take l.entry-index l.entry-items)
