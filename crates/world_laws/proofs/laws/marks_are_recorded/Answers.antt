use Rattle.world_laws.proofs.Marks.{marks_are_recorded}
use Rattle.world_laws.proofs.laws.marks_are_recorded.Goals as goal

pub returns : goal.returns
returns c = marks_are_recorded
