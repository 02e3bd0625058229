use Rattle.std.proofs.Common.{◌≡◌, ◌+◌, drop}
use Rattle.kept_report.specs.Counting.{rows_in}
use Rattle.kept_report.proofs.counting.rows_in.Given as goal

abbrev pub invariant-loop-entry : goal.invariant-loop-entry
invariant-loop-entry l = l.rows + rows_in (drop l.entry-index l.entries) ≡ rows_in l.entries
