use Rattle.std.proofs.Common.{◌≡◌, sym, ◌∙◌, subst}
use Rattle.replay_rounds.specs.Stopping.{HasNumbers}
use Rattle.replay_rounds.proofs.Stopped.{summary_numbers}
use Rattle.replay_rounds.proofs.loading.load_values.Goals as goal

pub returns-else-fit-clause-numbers : goal.returns-else-fit-clause-numbers
returns-else-fit-clause-numbers g c told kept is =
    let same : c.numbers_in.result ≡ kept = (cc) in
    subst (HasNumbers (g.K.Keeper.kept c.args.keeper.now)) (sym c.numbers_in.ensures ∙ same) (summary_numbers c.in-Ok.restored (g.K.Keeper.kept c.args.keeper.now) (c.in-Ok.ensures.value told))
