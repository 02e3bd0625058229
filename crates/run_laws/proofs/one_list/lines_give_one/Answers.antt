use Rattle.run_laws.proofs.one_list.lines_give_one.Goals as goal
use Rattle.run_laws.proofs.Lines as law

pub returns : goal.returns
returns g c = law.lines_give_one g.S.Source.tells
