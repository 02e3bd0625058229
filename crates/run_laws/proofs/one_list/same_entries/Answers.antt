use Rattle.run_laws.proofs.one_list.same_entries.Goals as goal
use Rattle.run_laws.proofs.Same as law

pub returns : goal.returns
returns g c = law.same_entries g.S.Source.tells
