use Rattle.world_laws.proofs.Lines.{file_is_prefix}
use Rattle.world_laws.proofs.laws.file_is_prefix.Goals as goal

pub returns : goal.returns
returns c = file_is_prefix
