use Rattle.std.proofs.Common.{◌≡◌, ℕ, ◌+◌, ◌-◌, ◌<◌, ◌≤◌, ◌∙◌, ap, sym, refl, subst, arith, length, take, drop, [], ◌∷◌, ◌++◌}
use Rattle.std.proofs.lemmas.List.Elements.{All-drop, All-same}
use Rattle.entry_model.specs.Legal.{IsEvent}
use Rattle.event_store.specs.Queues.{new_events, placed, IsLonger}
use Rattle.event_store.specs.Segments.{before_all}
use Rattle.event_store.specs.Staging.{IsOverfull}
use Rattle.event_store.proofs.Images.{length_placed}
use Rattle.event_store.proofs.Filling.{longer_filled}
use Rattle.event_store.proofs.Stages.{on_ok, on_err, always_err, filled_all, joined_all, reach_filled, counts_next, behind_segments, behind_joined}
use Rattle.event_store.proofs.placing.add_events.Goals as goal

pub returns-then-until-tail-clause-ok : goal.returns-then-until-tail-clause-ok
returns-then-until-tail-clause-ok g c =
    let events = c.args.events in
    let tail = c.args.tail.now in
    let parts = c.args.parts.now.items in
    let before : ℕ → ℕ = λ table. before_all table (parts ++ tail ∷ []) in
    let given : c.from_vec-rest.result.items ≡ events = c.from_vec-rest.ensures.items ∙ c.into_vec.ensures in
    let count : c.len.result ≡ length events = (let a = ap length given in let b = c.from_vec-rest.result.ok in let d = c.len.ensures in omega (arith, a, b, d)) in
    let room : c.args.last + length events < tail.end = (let a = c.if-until-tail.true in omega (arith, a, count)) in
    on_ok c.fill.result (λ placing. filled_all 0 c.args.last (c.args.last + length events) c.args.moment before parts tail c.fill.new.queues events c.requires.segments (sym (length_placed tail.held (new_events c.args.last c.args.moment (take (c.args.last + c.len.result - c.args.last) c.from_vec-rest.result.items))) ∙ sym (ap length placing) ∙ c.fill.ensures.count) refl room (placing ∙ (λ i. placed tail.held (new_events c.args.last c.args.moment (take (c.args.last + count i - c.args.last) (given i)))))) c.fill.ensures.ok

pub returns-then-until-tail-clause-events : goal.returns-then-until-tail-clause-events
returns-then-until-tail-clause-events g c =
    let events = c.args.events in
    let tail = c.args.tail.now in
    let parts = c.args.parts.now.items in
    let before : ℕ → ℕ = λ table. before_all table (parts ++ tail ∷ []) in
    let given : c.from_vec-rest.result.items ≡ events = c.from_vec-rest.ensures.items ∙ c.into_vec.ensures in
    let count : c.len.result ≡ length events = (let a = ap length given in let b = c.from_vec-rest.result.ok in let d = c.len.ensures in omega (arith, a, b, d)) in
    let room : c.args.last + length events ≤ tail.end = (let a = c.if-until-tail.true in omega (arith, a, count)) in
    on_ok c.fill.result (λ placing. joined_all 0 c.args.last (c.args.last + length events) c.args.moment before parts tail c.fill.new.queues events c.requires.segments (sym (length_placed tail.held (new_events c.args.last c.args.moment (take (c.args.last + c.len.result - c.args.last) c.from_vec-rest.result.items))) ∙ sym (ap length placing) ∙ c.fill.ensures.count) refl room (placing ∙ (λ i. placed tail.held (new_events c.args.last c.args.moment (take (c.args.last + count i - c.args.last) (given i)))))) c.fill.ensures.ok

pub next-requires-clause-small : goal.next-requires-clause-small
next-requires-clause-small g c table lt =
    let tail = c.args.tail.now in
    let given : c.from_vec-rest.result.items ≡ c.args.events = c.from_vec-rest.ensures.items ∙ c.into_vec.ensures in
    let count = ap length given in
    let ok = c.from_vec-rest.result.ok in
    let len = c.len.ensures in
    let past = c.if-until-tail.false in
    let room = c.requires.segments.unfilled in
    let small = c.requires.small in
    let a = reach_filled c.args.last c.args.moment tail c.fill-2.new.queues c.from_vec-rest.result.items table (c.requires.counted table lt) (omega (arith, room)) c.in_ok-fill.ensures.ok (omega (arith, ok, len, past)) in
    omega (arith, a, count, ok, len, past, small)

pub stage-requires-clause-events : goal.stage-requires-clause-events
stage-requires-clause-events g c =
    let given : c.from_vec-rest.result.items ≡ c.args.events = c.from_vec-rest.ensures.items ∙ c.into_vec.ensures in
    All-same IsEvent c.fill-2.new.rest.items (drop (c.args.tail.now.end - c.args.last) c.from_vec-rest.result.items) c.in_ok-fill.ensures.rest (All-drop IsEvent (c.args.tail.now.end - c.args.last) c.from_vec-rest.result.items (All-same IsEvent c.from_vec-rest.result.items c.args.events given c.requires.events))

pub stage-requires-clause-counted : goal.stage-requires-clause-counted
stage-requires-clause-counted g c table lt =
    let tail = c.args.tail.now in
    let ok = c.from_vec-rest.result.ok in
    let len = c.len.ensures in
    let past = c.if-until-tail.false in
    let room = c.requires.segments.unfilled in
    let a = reach_filled c.args.last c.args.moment tail c.fill-2.new.queues c.from_vec-rest.result.items table (c.requires.counted table lt) (omega (arith, room)) c.in_ok-fill.ensures.ok (omega (arith, ok, len, past)) in
    let b = counts_next (record tail { held = c.fill-2.new.queues }) c.next.result c.next.ensures table lt in
    omega (arith, a, b)

pub returns-in_err-staged-clause-err : goal.returns-in_err-staged-clause-err
returns-in_err-staged-clause-err g c =
    let tail = c.args.tail.now in
    always_err c.from_residual-in_err-staged.result (refl, record { end = refl; before = refl; held = subst (IsLonger tail.held) (sym c.in_ok-fill.ensures.ok) (longer_filled tail.held (new_events c.args.last c.args.moment (take (tail.end - c.args.last) c.from_vec-rest.result.items))) })

pub returns-clause-err : goal.returns-clause-err
returns-clause-err g c =
    let tail = c.args.tail.now in
    on_err c.put_behind.result (λ same. (same.0, subst (IsOverfull tail) (sym same.1) (record { end = refl; before = refl; held = subst (IsLonger tail.held) (sym c.in_ok-fill.ensures.ok) (longer_filled tail.held (new_events c.args.last c.args.moment (take (tail.end - c.args.last) c.from_vec-rest.result.items))) }))) c.put_behind.ensures.err

pub returns-clause-ok : goal.returns-clause-ok
returns-clause-ok g c =
    let events = c.args.events in
    let tail = c.args.tail.now in
    let parts = c.args.parts.now.items in
    let before : ℕ → ℕ = λ table. before_all table (parts ++ tail ∷ []) in
    let given : c.from_vec-rest.result.items ≡ events = c.from_vec-rest.ensures.items ∙ c.into_vec.ensures in
    let count : c.len.result ≡ length events = (let a = ap length given in let b = c.from_vec-rest.result.ok in let d = c.len.ensures in omega (arith, a, b, d)) in
    let enough : tail.end ≤ c.args.last + length events = (let a = c.if-until-tail.false in omega (arith, a, count)) in
    let placing : c.fill-2.new.queues ≡ placed tail.held (new_events c.args.last c.args.moment (take (tail.end - c.args.last) events)) = c.in_ok-fill.ensures.ok ∙ (λ i. placed tail.held (new_events c.args.last c.args.moment (take (tail.end - c.args.last) (given i)))) in
    let three : length tail.held ≡ 3 = sym (length_placed tail.held (new_events c.args.last c.args.moment (take (tail.end - c.args.last) events))) ∙ sym (ap length placing) ∙ c.in_ok-fill.ensures.count in
    let rest_is : c.fill-2.new.rest.items ≡ drop (tail.end - c.args.last) events = c.in_ok-fill.ensures.rest ∙ (λ i. drop (tail.end - c.args.last) (given i)) in
    on_ok c.put_behind.result (λ same. behind_segments c.args.last c.args.moment before parts tail c.fill-2.new.queues events c.fill-2.new.rest.items c.next.result c.in_ok-staged.staged c.put_behind.new.parts.items c.put_behind.new.tail c.requires.segments three enough placing rest_is c.next.ensures c.in_ok-staged.ensures.ok c.in_ok-staged.ensures.events same.0 same.1) c.put_behind.ensures.ok

pub returns-clause-events : goal.returns-clause-events
returns-clause-events g c =
    let events = c.args.events in
    let tail = c.args.tail.now in
    let parts = c.args.parts.now.items in
    let before : ℕ → ℕ = λ table. before_all table (parts ++ tail ∷ []) in
    let given : c.from_vec-rest.result.items ≡ events = c.from_vec-rest.ensures.items ∙ c.into_vec.ensures in
    let count : c.len.result ≡ length events = (let a = ap length given in let b = c.from_vec-rest.result.ok in let d = c.len.ensures in omega (arith, a, b, d)) in
    let enough : tail.end ≤ c.args.last + length events = (let a = c.if-until-tail.false in omega (arith, a, count)) in
    let placing : c.fill-2.new.queues ≡ placed tail.held (new_events c.args.last c.args.moment (take (tail.end - c.args.last) events)) = c.in_ok-fill.ensures.ok ∙ (λ i. placed tail.held (new_events c.args.last c.args.moment (take (tail.end - c.args.last) (given i)))) in
    let three : length tail.held ≡ 3 = sym (length_placed tail.held (new_events c.args.last c.args.moment (take (tail.end - c.args.last) events))) ∙ sym (ap length placing) ∙ c.in_ok-fill.ensures.count in
    let rest_is : c.fill-2.new.rest.items ≡ drop (tail.end - c.args.last) events = c.in_ok-fill.ensures.rest ∙ (λ i. drop (tail.end - c.args.last) (given i)) in
    on_ok c.put_behind.result (λ same. behind_joined c.args.last c.args.moment before parts tail c.fill-2.new.queues events c.fill-2.new.rest.items c.next.result c.in_ok-staged.staged c.put_behind.new.parts.items c.put_behind.new.tail c.requires.segments three enough placing rest_is c.next.ensures c.in_ok-staged.ensures.ok c.in_ok-staged.ensures.events same.0 same.1) c.put_behind.ensures.ok
