use Rattle.kept_tables.proofs.Mixing.{kept_shows}
use Rattle.kept_tables.proofs.laws.shows.Goals as goal

pub returns : goal.returns
returns c = kept_shows
