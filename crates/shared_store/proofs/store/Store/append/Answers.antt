use Rattle.shared_store.specs.Notes.{grown}
use Rattle.shared_store.specs.Turns.{notes_of}
use Rattle.shared_store.specs.Words.{start_of}
use Rattle.session_state.specs.Readings.{entry_of}
use Rattle.shared_store.proofs.Shares.{by_result, noted_ok, noted_err}
use Rattle.shared_store.proofs.Turning.{grown_like, ends_like}
use Rattle.shared_store.proofs.store.Store.append.Goals as goal

pub end-requires-clause-stands : goal.end-requires-clause-stands
end-requires-clause-stands g c =
    let start = start_of c.args.self.now in
    let notes = notes_of c.turn-turn.new.seat in
    let was = c.turn-turn.result.value.state in
    let now = c.append-result.new.self in
    let left = by_result start notes was now c.append-result.result (entry_of c.args.source.now was.counts.moment c.args.reading) c.append-result.ensures.added c.append-result.ensures.err c.turn-turn.ensures.begins.stands in
    grown_like start notes was c.of-before.result.value now c.of-before.ensures left

pub returns-clause-turn : goal.returns-clause-turn
returns-clause-turn g c =
    let start = start_of c.args.self.now in
    let mid = c.turn-turn.new.seat in
    let notes = notes_of mid in
    let was = c.turn-turn.result.value.state in
    let now = c.append-result.new.self in
    let call = c.append-result.ensures in
    let left = by_result start notes was now c.append-result.result (entry_of c.args.source.now was.counts.moment c.args.reading) c.append-result.ensures.added c.append-result.ensures.err c.turn-turn.ensures.begins.stands in
    let ends = ends_like start mid c.end.new.seat was c.of-before.result.value now c.of-before.ensures c.end.ensures.seat.0 c.end.ensures.seen left in
    (mid, was, now, grown was.tail now.tail, c.turn-turn.ensures.begins, ends, record { added = noted_ok was now c.append-result.result (entry_of c.args.source.now was.counts.moment c.args.reading) call.added; numbers = call.numbers; claims = call.claims; backwards = call.backwards; spent = call.spent; err = noted_err was now c.append-result.result call.err })
