use Rattle.entry_model.proofs.Stamps as stamps
use Rattle.entry_model.proofs.laws.stamps_stay.Goals as goal

pub returns : goal.returns
returns c = stamps.stamps_stay
