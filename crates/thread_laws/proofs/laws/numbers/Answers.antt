use Rattle.thread_laws.proofs.laws.numbers.Goals as goal
use Rattle.thread_laws.proofs.Numbers as law

pub returns : goal.returns
returns c = law.numbers
