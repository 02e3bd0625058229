use Rattle.world_laws.proofs.Isolating.{lines_isolate}
use Rattle.world_laws.proofs.laws.lines_isolate.Goals as goal

pub returns : goal.returns
returns c = lines_isolate
