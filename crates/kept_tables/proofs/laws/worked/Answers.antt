use Rattle.kept_tables.proofs.Mixing.{worked}
use Rattle.kept_tables.proofs.laws.worked.Goals as goal

pub returns : goal.returns
returns c = worked
