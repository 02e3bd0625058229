use Rattle.collect_rounds.proofs.Isolating.{isolation}
use Rattle.collect_rounds.proofs.laws.isolation.Goals as goal

pub returns : goal.returns
returns c = isolation
