use Rattle.collector_core.proofs.Receiving.{isolation}
use Rattle.collector_core.proofs.laws.isolation.Goals as goal

pub returns : goal.returns
returns c = isolation
