use Rattle.world_laws.proofs.Lines.{lines_are_prefix}
use Rattle.world_laws.proofs.laws.lines_are_prefix.Goals as goal

pub returns : goal.returns
returns c = lines_are_prefix
