use Rattle.session_model.proofs.laws.forgets.Goals as goal
use Rattle.session_model.proofs.Forgotten as forgotten

pub returns : goal.returns
returns g c = forgotten.forgets g.S.Source.tells
