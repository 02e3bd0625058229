use Rattle.world_laws.proofs.Braces.{none_begins}
use Rattle.world_laws.proofs.laws.none_begins.Goals as goal

pub returns : goal.returns
returns c = none_begins
