use Rattle.batch_frames.proofs.Begins.{begins_value}
use Rattle.batch_frames.proofs.values.ValueSpelled.begins.Goals as goal

pub returns : goal.returns
returns c = begins_value
