use Rattle.world_laws.proofs.Lines.{still_prefix}
use Rattle.world_laws.proofs.laws.still_prefix.Goals as goal

pub returns : goal.returns
returns c = still_prefix
