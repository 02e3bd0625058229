use Rattle.std.proofs.Common.{◌≡◌, ap, ◌∙◌}
use Rattle.shared_store.specs.declared.noted.Took.{Took}
use Rattle.shared_store.specs.Notes.{taken_by}
use Rattle.shared_store.specs.Turns.{notes_of}
use Rattle.shared_store.specs.Words.{start_of}
use Rattle.shared_store.proofs.Shares.{by_take, noted_take, unmarked}
use Rattle.shared_store.proofs.Turning.{stands_said, ends_said}
use Rattle.shared_store.proofs.store.Store.take_tail.Goals as goal

pub pass-requires-clause-stands : goal.pass-requires-clause-stands
pass-requires-clause-stands g c =
    let start = start_of c.args.self.now in
    let notes = notes_of c.turn-turn.new.seat in
    let was = c.turn-turn.result.value.state in
    let now = c.take_tail-result.new.self in
    let call = c.take_tail-result.ensures in
    let result = c.take_tail-result.result in
    let same : c.of.result.value.0.value ≡ result = ap (λ (x : Took). x.0.value) c.of.ensures ∙ c.of-said.ensures in
    let left = by_take start notes was now result call.ok call.err c.turn-turn.ensures.begins.stands in
    stands_said taken_by start notes now c.of.result.value.0.value result same left

pub returns-clause-turn : goal.returns-clause-turn
returns-clause-turn g c =
    let start = start_of c.args.self.now in
    let mid = c.turn-turn.new.seat in
    let notes = notes_of mid in
    let was = c.turn-turn.result.value.state in
    let now = c.take_tail-result.new.self in
    let call = c.take_tail-result.ensures in
    let result = c.take_tail-result.result in
    let same : c.of.result.value.0.value ≡ result = ap (λ (x : Took). x.0.value) c.of.ensures ∙ c.of-said.ensures in
    let left = by_take start notes was now result call.ok call.err c.turn-turn.ensures.begins.stands in
    let ends = ends_said taken_by start mid c.pass.new.seat now c.of.result.value.0.value result same c.pass.ensures.seat.0 c.pass.ensures.seen left in
    (mid, was, now, taken_by result, c.turn-turn.ensures.begins, ends, record { taken = call.taken; sealable = call.sealable; marked = noted_take was now result call.ok; err = unmarked was now result call.err })
