use Rattle.run_laws.proofs.isolation.hosts_isolate.Goals as goal
use Rattle.run_laws.proofs.Isolated as law

pub returns : goal.returns
returns g c = law.hosts_isolate _
