use Rattle.world_laws.proofs.Texts.{texts_tell}
use Rattle.world_laws.proofs.laws.texts_tell.Goals as goal

pub returns : goal.returns
returns c = texts_tell
