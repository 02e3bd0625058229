use Rattle.run_laws.proofs.self_test.one_line.Goals as goal
use Rattle.run_laws.proofs.SelfTest as law

pub returns : goal.returns
returns c = law.one_line
