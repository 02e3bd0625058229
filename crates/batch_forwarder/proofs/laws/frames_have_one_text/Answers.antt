use Rattle.batch_forwarder.proofs.Told.{have_one_text, stay_frames}
use Rattle.batch_forwarder.proofs.laws.frames_have_one_text.Goals as goal

pub returns : goal.returns
returns c = record { one = have_one_text; stay = stay_frames }
