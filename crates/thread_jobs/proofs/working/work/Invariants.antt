use Rattle.thread_jobs.proofs.working.work.Given as goal

abbrev pub ghosts-answer_each : goal.ghosts-answer_each
ghosts-answer_each g a = record { name = a.blank.name; parts = a.blank.parts }
