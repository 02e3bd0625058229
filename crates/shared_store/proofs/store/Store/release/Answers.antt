use Rattle.std.proofs.Common.{[], refl}
use Rattle.shared_store.specs.Turns.{notes_of}
use Rattle.shared_store.specs.Words.{start_of}
use Rattle.shared_store.proofs.Shares.{release_stands}
use Rattle.shared_store.proofs.store.Store.release.Goals as goal

pub pass-requires-clause-stands : goal.pass-requires-clause-stands
pass-requires-clause-stands g c =
    release_stands (start_of c.args.self.now) (notes_of c.turn-turn.new.seat) c.turn-turn.result.value.state c.release.new.self c.args.cut c.release.ensures.released c.turn-turn.ensures.begins.stands

pub returns-clause-turn : goal.returns-clause-turn
returns-clause-turn g c =
    let left = release_stands (start_of c.args.self.now) (notes_of c.turn-turn.new.seat) c.turn-turn.result.value.state c.release.new.self c.args.cut c.release.ensures.released c.turn-turn.ensures.begins.stands in (
      c.turn-turn.new.seat,
      c.turn-turn.result.value.state,
      c.release.new.self,
      [],
      c.turn-turn.ensures.begins,
      record { same = c.pass.ensures.seat.0; stands = left; sees = c.pass.ensures.seen },
      (c.release.ensures.released, refl),
    )
