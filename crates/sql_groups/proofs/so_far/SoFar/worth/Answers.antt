use Rattle.std.proofs.Common.{◌∙◌, subst}
use Rattle.sql_groups.specs.Folding.{HasFolded}
use Rattle.sql_groups.proofs.Standing.{lone-worth}
use Rattle.sql_groups.proofs.so_far.SoFar.worth.Goals as goal

pub returns-in_ok-worth_in-in-Alone : goal.returns-in_ok-worth_in-in-Alone
returns-in_ok-worth_in-in-Alone c = λ item rows stands.
    c.in_ok-worth_in-in-Alone.ensures ∙ lone-worth item rows c.in-Alone.row c.in-Alone.expr (subst (HasFolded rows item) c.in-Alone.is stands)
