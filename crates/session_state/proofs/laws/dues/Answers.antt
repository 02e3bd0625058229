use Rattle.session_state.proofs.Dues as proof
use Rattle.session_state.proofs.laws.dues.Goals as goal

pub returns : goal.returns
returns c = proof.knows_dues
