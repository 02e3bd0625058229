use Rattle.std.proofs.Common.{[], sym, subst}
use Rattle.session_state.specs.Kept.{Kept}
use Rattle.shared_store.specs.Shares.{StandsFor}
use Rattle.shared_store.proofs.Shares.{still_stands}
use Rattle.shared_store.proofs.store.Store.over.Goals as goal

pub make-requires-clause-stands : goal.make-requires-clause-stands
make-requires-clause-stands c =
    subst (λ (start : Kept). StandsFor start [] c.args.state) (sym c.of-start.ensures) (still_stands c.args.state)
