use Rattle.thread_laws.proofs.laws.joins.Goals as goal
use Rattle.thread_laws.proofs.Joined as law

pub returns : goal.returns
returns c = law.joins
