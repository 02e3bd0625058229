use Rattle.thread_laws.proofs.laws.stay_undue.Goals as goal
use Rattle.thread_laws.proofs.Timely as law

pub returns : goal.returns
returns c = law.stay_undue
