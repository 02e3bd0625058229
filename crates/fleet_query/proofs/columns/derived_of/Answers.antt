use Rattle.std.proofs.Common.{◌∙◌, ap}
use Rattle.std.proofs.lemmas.Result.{IfOk-weaker}
use Rattle.fleet_query.proofs.LastsShown.{behind, few}
use Rattle.fleet_query.proofs.columns.derived_of.Goals as goal

pub returns-clause-few : goal.returns-clause-few
returns-clause-few c =
    IfOk-weaker c.derived_by.result _ _
    (λ derived is. few c.args.frames.now c.as_slice.result.now derived (ap behind c.as_slice.ensures ∙ c.in_ok-lasts.ensures) is)
    c.derived_by.ensures.derived
