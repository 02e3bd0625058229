use Rattle.daemon_rounds.proofs.answering.answer_due.Given as goal

abbrev pub ghosts-answer_each : goal.ghosts-answer_each
ghosts-answer_each a = record { name = a.blank.name; parts = a.blank.parts }
