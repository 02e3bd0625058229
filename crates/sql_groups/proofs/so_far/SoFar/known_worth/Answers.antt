use Rattle.std.proofs.Common.{◌∙◌, subst}
use Rattle.sql_groups.specs.Folding.{HasFolded}
use Rattle.sql_groups.proofs.Standing.{summed-worth}
use Rattle.sql_groups.proofs.so_far.SoFar.known_worth.Goals as goal

pub returns-in-Sum : goal.returns-in-Sum
returns-in-Sum c = λ item rows stands.
    c.sum_value.ensures ∙ summed-worth item rows c.in-Sum.place c.in-Sum.sum (subst (HasFolded rows item) c.in-Sum.is stands)
