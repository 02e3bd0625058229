use Rattle.collector_core.proofs.Receiving.{stays}
use Rattle.collector_core.proofs.laws.stays.Goals as goal

pub returns : goal.returns
returns c = stays
