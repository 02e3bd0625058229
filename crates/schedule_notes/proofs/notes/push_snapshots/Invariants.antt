use Rattle.std.proofs.Common.{◌≡◌, ◌++◌, take}
use Rattle.std.specs.Prelude.{flat_map}
use Rattle.schedule_notes.specs.Notes.{snapshot_line}
use Rattle.schedule_notes.proofs.notes.push_snapshots.Given as goal

abbrev pub invariant-loop-entry : goal.invariant-loop-entry
invariant-loop-entry l = l.notes ≡ l.fn.notes ++ flat_map snapshot_line (take l.entry-index l.entries)
