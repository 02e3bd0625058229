use Rattle.thread_laws.proofs.laws.none_intrudes.Goals as goal
use Rattle.thread_laws.proofs.Agreed as law

pub returns : goal.returns
returns c = law.none_intrudes
