use Rattle.kept_tables.proofs.Archiving.{fetch_is_known}
use Rattle.kept_tables.proofs.laws.fetch_is_known.Goals as goal

pub returns : goal.returns
returns c = fetch_is_known
