use Rattle.thread_jobs.proofs.publishing.publish.Given as goal

abbrev pub ghosts-append_each : goal.ghosts-append_each
ghosts-append_each g a = record { name = a.blank.name; parts = a.blank.parts }
