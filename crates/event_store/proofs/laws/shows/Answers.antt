use Rattle.event_store.proofs.Showing as proof
use Rattle.event_store.proofs.laws.shows.Goals as goal

pub returns : goal.returns
returns c = proof.shows
