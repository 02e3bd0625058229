use Rattle.std.proofs.Common.{refl}
use Rattle.batch_frames.proofs.items.RowSpelled.begins.Goals as goal

pub returns : goal.returns
returns c = λ _ _. refl
