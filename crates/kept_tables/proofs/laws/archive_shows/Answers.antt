use Rattle.kept_tables.proofs.Archiving.{archive_shows}
use Rattle.kept_tables.proofs.laws.archive_shows.Goals as goal

pub returns : goal.returns
returns c = archive_shows
