use Rattle.entry_model.proofs.laws.verdicts.Goals as goal
use Rattle.entry_model.proofs.Verdicts as proof

pub returns : goal.returns
returns c = proof.verdicts
