use Rattle.collector_core.proofs.Receiving.{in-order}
use Rattle.collector_core.proofs.laws.in_order.Goals as goal

pub returns : goal.returns
returns c = in-order
