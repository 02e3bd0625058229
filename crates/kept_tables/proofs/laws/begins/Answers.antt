use Rattle.kept_tables.proofs.Mixing.{begins}
use Rattle.kept_tables.proofs.laws.begins.Goals as goal

pub returns : goal.returns
returns c = begins
