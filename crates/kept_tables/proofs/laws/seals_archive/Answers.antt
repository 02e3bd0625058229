use Rattle.kept_tables.proofs.Archiving.{seal_archives}
use Rattle.kept_tables.proofs.laws.seals_archive.Goals as goal

pub returns : goal.returns
returns c = seal_archives
