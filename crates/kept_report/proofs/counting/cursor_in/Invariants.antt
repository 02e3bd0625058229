use Rattle.std.proofs.Common.{◌≡◌, drop}
use Rattle.entry_model.specs.Values.{cursor_of}
use Rattle.kept_report.proofs.Counts.{cursor_from}
use Rattle.kept_report.proofs.counting.cursor_in.Given as goal

abbrev pub invariant-loop-entry : goal.invariant-loop-entry
invariant-loop-entry l = cursor_from l.query l.cursor (drop l.entry-index l.entries) ≡ cursor_of l.entries l.query
