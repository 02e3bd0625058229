use Rattle.std.proofs.Common.{◌≡◌, take}
use Rattle.osq_program.specs.Checking.{schedule_lines}
use Rattle.osq_program.proofs.schedule_lines.lines_of.Given as goal

abbrev pub invariant-loop-scheduled : goal.invariant-loop-scheduled
invariant-loop-scheduled l = l.lines ≡ schedule_lines (take l.scheduled-index l.queries)
