use Rattle.std.proofs.Common.{◌≡◌, ap, ◌∙◌}
use Rattle.shared_store.specs.declared.noted.Gave.{Gave}
use Rattle.shared_store.specs.Notes.{given_by}
use Rattle.shared_store.specs.Turns.{notes_of}
use Rattle.shared_store.specs.Words.{start_of}
use Rattle.shared_store.proofs.Shares.{by_cut, noted_cut, ungiven}
use Rattle.shared_store.proofs.Turning.{stands_said, ends_said, gives_said, gives_no_older}
use Rattle.shared_store.proofs.store.Store.claim_cut.Goals as goal

pub pass-requires-clause-stands : goal.pass-requires-clause-stands
pass-requires-clause-stands g c =
    let start = start_of c.args.self.now in
    let notes = notes_of c.turn-turn.new.seat in
    let was = c.turn-turn.result.value.state in
    let now = c.claim_cut-result.new.self in
    let call = c.claim_cut-result.ensures in
    let result = c.claim_cut-result.result in
    let same : c.of.result.value.0.value ≡ result = ap (λ (x : Gave). x.0.value) c.of.ensures ∙ c.of-said.ensures in
    let left = by_cut start notes was now result call.cut call.claimed call.own call.stands call.err c.turn-turn.ensures.begins.stands in
    stands_said given_by start notes now c.of.result.value.0.value result same left

pub returns-clause-turn : goal.returns-clause-turn
returns-clause-turn g c =
    let start = start_of c.args.self.now in
    let mid = c.turn-turn.new.seat in
    let notes = notes_of mid in
    let was = c.turn-turn.result.value.state in
    let now = c.claim_cut-result.new.self in
    let call = c.claim_cut-result.ensures in
    let result = c.claim_cut-result.result in
    let same : c.of.result.value.0.value ≡ result = ap (λ (x : Gave). x.0.value) c.of.ensures ∙ c.of-said.ensures in
    let left = by_cut start notes was now result call.cut call.claimed call.own call.stands call.err c.turn-turn.ensures.begins.stands in
    let ends = ends_said given_by start mid c.pass.new.seat now c.of.result.value.0.value result same c.pass.ensures.seat.0 c.pass.ensures.seen left in
    (mid, was, now, given_by result, c.turn-turn.ensures.begins, ends, record { cut = call.cut; none = call.none; noted = noted_cut result; claimed = call.claimed; cost = call.cost; err = ungiven was now result call.err })

pub returns-clause-given : goal.returns-clause-given
returns-clause-given g c =
    let result = c.claim_cut-result.result in
    let mid = c.turn-turn.new.seat in
    let same : c.of.result.value.0.value ≡ result = ap (λ (x : Gave). x.0.value) c.of.ensures ∙ c.of-said.ensures in
    gives_said (start_of c.args.self.now) c.args.seat.now mid c.pass.new.seat c.claim_cut-result.new.self c.of.result.value.0.value result same c.pass.ensures.seen

pub returns-clause-no_older : goal.returns-clause-no_older
returns-clause-no_older g c =
    let start = start_of c.args.self.now in
    let mid = c.turn-turn.new.seat in
    let was = c.turn-turn.result.value.state in
    let now = c.claim_cut-result.new.self in
    let call = c.claim_cut-result.ensures in
    let result = c.claim_cut-result.result in
    let left = by_cut start (notes_of mid) was now result call.cut call.claimed call.own call.stands call.err c.turn-turn.ensures.begins.stands in
    gives_no_older start c.args.seat.now mid c.pass.new.seat now result c.turn-turn.ensures.begins.overhears left
