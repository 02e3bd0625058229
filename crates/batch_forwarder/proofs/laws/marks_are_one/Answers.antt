use Rattle.batch_forwarder.proofs.Marked.{marks_are_one}
use Rattle.batch_forwarder.proofs.laws.marks_are_one.Goals as goal

pub returns : goal.returns
returns c = marks_are_one
