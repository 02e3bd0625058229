use Rattle.world_laws.proofs.Torn.{torn}
use Rattle.world_laws.proofs.laws.torn.Goals as goal

pub returns : goal.returns
returns c = torn
