use Rattle.collector_core.proofs.Receiving.{recorded}
use Rattle.collector_core.proofs.laws.recorded.Goals as goal

pub returns : goal.returns
returns c = recorded
