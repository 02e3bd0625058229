use Rattle.entry_summary.proofs.FloorSteps.{none_set}
use Rattle.entry_summary.proofs.floors.no_floors.Goals as goal

pub returns : goal.returns
returns c = none_set 256
