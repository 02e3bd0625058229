use Rattle.pack_rules.proofs.laws.soundness.Goals as goal
use Rattle.pack_rules.proofs.Soundness.{schedule_sound}

pub returns : goal.returns
returns c = schedule_sound
