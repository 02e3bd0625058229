use Rattle.entry_model.proofs.laws.patience.Goals as goal
use Rattle.entry_model.proofs.Patient as patient

pub returns : goal.returns
returns c = patient.patience
