use Rattle.std.proofs.Common.{◌≡◌, ◌++◌, take}
use Rattle.schedule_notes.specs.Listed.{own_judged}
use Rattle.schedule_notes.proofs.entries.push_schedule.Given as goal

abbrev pub invariant-loop-entry : goal.invariant-loop-entry
invariant-loop-entry l = l.judged ≡ l.fn.judged ++ own_judged l.host (take l.entry-index l.entries)
