use Rattle.std.proofs.Common.{refl}
use Rattle.batch_frames.proofs.items.SequenceSpelled.begins.Goals as goal

pub returns : goal.returns
returns g c = λ _ _. refl
