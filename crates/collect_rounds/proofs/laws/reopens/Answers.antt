use Rattle.collect_rounds.proofs.Reopening.{reopens}
use Rattle.collect_rounds.proofs.laws.reopens.Goals as goal

pub returns : goal.returns
returns c = reopens
