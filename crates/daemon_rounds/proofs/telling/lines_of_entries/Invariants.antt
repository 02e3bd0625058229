use Rattle.daemon_rounds.proofs.Told.{AreBegun}
use Rattle.daemon_rounds.proofs.telling.lines_of_entries.Given as goal

abbrev pub invariant-loop-entry : goal.invariant-loop-entry
invariant-loop-entry l = AreBegun l.host l.initial.form l.entries l.entry-index l.form l.text
