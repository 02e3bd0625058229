use Rattle.run_laws.proofs.completeness.completes.Goals as goal
use Rattle.run_laws.proofs.Complete as law

pub returns : goal.returns
returns g c = law.completes _
