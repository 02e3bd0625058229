use Rattle.kept_tables.proofs.Behind.{seal_keeps}
use Rattle.kept_tables.proofs.laws.seals.Goals as goal

pub returns : goal.returns
returns c = seal_keeps
