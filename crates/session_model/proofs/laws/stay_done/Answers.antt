use Rattle.session_model.proofs.laws.stay_done.Goals as goal
use Rattle.session_model.proofs.Done as done

pub returns : goal.returns
returns c = done.stay_done
