use Rattle.std.proofs.Common.{◌≡◌, ◌++◌, take}
use Rattle.std.specs.Prelude.{flat_map}
use Rattle.schedule_notes.specs.Notes.{refused_line}
use Rattle.schedule_notes.proofs.notes.push_all_refused.Given as goal

abbrev pub invariant-loop-entry : goal.invariant-loop-entry
invariant-loop-entry l = l.notes ≡ l.fn.notes ++ flat_map refused_line (take l.entry-index l.entries)
