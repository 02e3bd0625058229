use Rattle.session_state.proofs.state.State.view_above.Given as goal

abbrev pub ghosts-view_of : goal.ghosts-view_of
ghosts-view_of a = record { name = a.blank.name; parts = a.blank.parts }
