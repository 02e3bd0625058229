use Rattle.std.proofs.Common.{[], refl}
use Rattle.shared_store.specs.Turns.{notes_of}
use Rattle.shared_store.specs.Words.{start_of}
use Rattle.shared_store.proofs.Shares.{same_stands}
use Rattle.shared_store.proofs.store.Store.tables_view.Goals as goal

pub pass-requires-clause-stands : goal.pass-requires-clause-stands
pass-requires-clause-stands g c =
    let was = c.turn-turn.result.value.state in
    same_stands (start_of c.args.self.now) (notes_of c.turn-turn.new.seat) was was refl c.turn-turn.ensures.begins.stands

pub returns-clause-turn : goal.returns-clause-turn
returns-clause-turn g c =
    let was = c.turn-turn.result.value.state in
    let left = same_stands (start_of c.args.self.now) (notes_of c.turn-turn.new.seat) was was refl c.turn-turn.ensures.begins.stands in (
      c.turn-turn.new.seat,
      was,
      was,
      [],
      c.turn-turn.ensures.begins,
      record { same = c.pass.ensures.seat.0; stands = left; sees = c.pass.ensures.seen },
      record { view = c.tables_view-result.ensures; same = (refl, refl) },
    )
