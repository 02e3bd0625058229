use Rattle.daemon_rounds.proofs.appending.append_all.Given as goal

abbrev pub ghosts-append_each : goal.ghosts-append_each
ghosts-append_each a = record { name = a.blank.name; parts = a.blank.parts }
