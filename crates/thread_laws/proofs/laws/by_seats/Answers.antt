use Rattle.thread_laws.proofs.laws.by_seats.Goals as goal
use Rattle.thread_laws.proofs.Bodies as law

pub returns : goal.returns
returns c = law.by_seats
