use Rattle.run_laws.proofs.ticks.few_ticks.Goals as goal
use Rattle.run_laws.proofs.Ended as law

pub returns : goal.returns
returns g c = law.few_ticks g.S.Source.tells g.L.Link.tells
