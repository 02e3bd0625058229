use Rattle.std.proofs.Common.{◌≡◌, ◌++◌, take}
use Rattle.schedule_notes.specs.Listed.{judged_in_pack}
use Rattle.schedule_notes.proofs.entries.push_entries.Given as goal

abbrev pub invariant-loop-entry : goal.invariant-loop-entry
invariant-loop-entry l = l.judged ≡ l.fn.judged ++ judged_in_pack l.host l.pack (take l.entry-index l.entries)
