use Rattle.batch_frames.proofs.Begins.{begins_mode}
use Rattle.batch_frames.proofs.values.ModeSpelled.begins.Goals as goal

pub returns : goal.returns
returns c = λ mode _. begins_mode mode
