use Rattle.event_store.proofs.Bridge as proof
use Rattle.event_store.proofs.laws.keeps_up.Goals as goal

pub returns : goal.returns
returns c = proof.keeps_up
