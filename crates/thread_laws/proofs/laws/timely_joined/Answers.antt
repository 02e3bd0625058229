use Rattle.thread_laws.proofs.laws.timely_joined.Goals as goal
use Rattle.thread_laws.proofs.Timely as law

pub returns : goal.returns
returns c = law.timely_joined
