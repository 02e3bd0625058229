use Rattle.run_laws.proofs.one_list.same_loads.Goals as goal
use Rattle.run_laws.proofs.Generated as law

pub returns : goal.returns
returns g c = law.same_loads g.S.Source.tells
