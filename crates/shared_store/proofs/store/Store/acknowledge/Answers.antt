use Rattle.shared_store.specs.Notes.{grown}
use Rattle.shared_store.specs.Turns.{notes_of}
use Rattle.shared_store.specs.Words.{start_of}
use Rattle.entry_model.specs.declared.entry.Entry.TheVariants.{Acked}
use Rattle.shared_store.proofs.Shares.{by_done, noted_done, noted_err}
use Rattle.shared_store.proofs.Turning.{grown_like, ends_like}
use Rattle.shared_store.proofs.store.Store.acknowledge.Goals as goal

pub end-requires-clause-stands : goal.end-requires-clause-stands
end-requires-clause-stands g c =
    let start = start_of c.args.self.now in
    let notes = notes_of c.turn-turn.new.seat in
    let was = c.turn-turn.result.value.state in
    let now = c.acknowledge-result.new.self in
    let left = by_done start notes was now c.acknowledge-result.result (Acked c.args.upto) c.acknowledge-result.ensures.added c.acknowledge-result.ensures.err c.turn-turn.ensures.begins.stands in
    grown_like start notes was c.of-before.result.value now c.of-before.ensures left

pub returns-clause-turn : goal.returns-clause-turn
returns-clause-turn g c =
    let start = start_of c.args.self.now in
    let mid = c.turn-turn.new.seat in
    let notes = notes_of mid in
    let was = c.turn-turn.result.value.state in
    let now = c.acknowledge-result.new.self in
    let call = c.acknowledge-result.ensures in
    let left = by_done start notes was now c.acknowledge-result.result (Acked c.args.upto) c.acknowledge-result.ensures.added c.acknowledge-result.ensures.err c.turn-turn.ensures.begins.stands in
    let ends = ends_like start mid c.end.new.seat was c.of-before.result.value now c.of-before.ensures c.end.ensures.seat.0 c.end.ensures.seen left in
    (mid, was, now, grown was.tail now.tail, c.turn-turn.ensures.begins, ends, record { answer = call.answer; added = noted_done was now c.acknowledge-result.result (Acked c.args.upto) call.added; claims = call.claims; err = noted_err was now c.acknowledge-result.result call.err })
