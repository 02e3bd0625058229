use Rattle.run_laws.proofs.one_list.one_configuration.Goals as goal
use Rattle.run_laws.proofs.Documents as law

pub returns : goal.returns
returns c = law.one_configuration
