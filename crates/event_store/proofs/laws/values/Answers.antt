use Rattle.event_store.proofs.Bridge as proof
use Rattle.event_store.proofs.laws.values.Goals as goal

pub returns : goal.returns
returns c = proof.values
