use Rattle.thread_laws.proofs.laws.own_joined.Goals as goal
use Rattle.thread_laws.proofs.Joined as law

pub returns : goal.returns
returns c = law.own_joined
