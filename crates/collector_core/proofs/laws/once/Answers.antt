use Rattle.collector_core.proofs.Receiving.{once}
use Rattle.collector_core.proofs.laws.once.Goals as goal

pub returns : goal.returns
returns c = once
