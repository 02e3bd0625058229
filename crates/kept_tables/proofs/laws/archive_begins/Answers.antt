use Rattle.std.proofs.Common.{refl}
use Rattle.kept_tables.proofs.laws.archive_begins.Goals as goal

pub returns : goal.returns
returns c = record { batches = refl; parts = refl }
