use Rattle.session_state.proofs.Shown as proof
use Rattle.session_state.proofs.laws.shows.Goals as goal

pub returns : goal.returns
returns c = proof.shows
