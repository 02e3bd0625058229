use Rattle.shared_store.specs.Notes.{WasGiven, grown}
use Rattle.shared_store.specs.Turns.{notes_of}
use Rattle.shared_store.specs.Words.{start_of}
use Rattle.turn_lock.specs.Words.{seen, IsOther}
use Rattle.shared_store.proofs.Shares.{knows_given, by_commit, noted_commit, noted_err}
use Rattle.shared_store.proofs.Turning.{given_grows, grown_like, ends_like}
use Rattle.shared_store.proofs.store.Store.commit.Goals as goal

pub commit-result-requires-clause-cut : goal.commit-result-requires-clause-cut
commit-result-requires-clause-cut g c =
    let mid = c.turn-turn.new.seat in
    let given : WasGiven c.args.cut (notes_of mid) = given_grows c.args.cut (IsOther c.args.seat.now) (seen c.args.seat.now) (seen mid) c.turn-turn.ensures.begins.overhears c.requires.given in
    knows_given (start_of c.args.self.now) (notes_of mid) c.turn-turn.result.value.state c.args.cut given c.turn-turn.ensures.begins.stands

pub end-requires-clause-stands : goal.end-requires-clause-stands
end-requires-clause-stands g c =
    let start = start_of c.args.self.now in
    let mid = c.turn-turn.new.seat in
    let was = c.turn-turn.result.value.state in
    let now = c.commit-result.new.self in
    let call = c.commit-result.ensures in
    let given : WasGiven c.args.cut (notes_of mid) = given_grows c.args.cut (IsOther c.args.seat.now) (seen c.args.seat.now) (seen mid) c.turn-turn.ensures.begins.overhears c.requires.given in
    let left = by_commit start (notes_of mid) was now c.commit-result.result c.args.cut c.args.rows given call.committed call.err c.turn-turn.ensures.begins.stands in
    grown_like start (notes_of mid) was c.of-before.result.value now c.of-before.ensures left

pub returns-clause-turn : goal.returns-clause-turn
returns-clause-turn g c =
    let start = start_of c.args.self.now in
    let mid = c.turn-turn.new.seat in
    let was = c.turn-turn.result.value.state in
    let now = c.commit-result.new.self in
    let call = c.commit-result.ensures in
    let given : WasGiven c.args.cut (notes_of mid) = given_grows c.args.cut (IsOther c.args.seat.now) (seen c.args.seat.now) (seen mid) c.turn-turn.ensures.begins.overhears c.requires.given in
    let left = by_commit start (notes_of mid) was now c.commit-result.result c.args.cut c.args.rows given call.committed call.err c.turn-turn.ensures.begins.stands in
    let ends = ends_like start mid c.end.new.seat was c.of-before.result.value now c.of-before.ensures c.end.ensures.seat.0 c.end.ensures.seen left in (
      mid,
      was,
      now,
      grown was.tail now.tail,
      c.turn-turn.ensures.begins,
      ends,
      record { number = call.number; committed = noted_commit was now c.commit-result.result c.args.cut c.args.rows call.committed; claims = call.claims; refused = call.refused; err = noted_err was now c.commit-result.result call.err },
    )
