use Rattle.state_cases.proofs.session.Session.append.Given as goal

abbrev pub ghosts-append_counted : goal.ghosts-append_counted
ghosts-append_counted a = record { name = a.blank.name; parts = a.blank.parts }
