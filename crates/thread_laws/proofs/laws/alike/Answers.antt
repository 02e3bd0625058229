use Rattle.thread_laws.proofs.laws.alike.Goals as goal
use Rattle.thread_laws.proofs.Alike as law

pub returns : goal.returns
returns c = law.alike
