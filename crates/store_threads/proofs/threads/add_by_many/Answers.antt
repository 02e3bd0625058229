use Rattle.std.proofs.Common.{◌≡◌, ◌≢◌, ◌+◌, ℕ, List, length, All, ap, sym, ◌∙◌, subst, arith}
use Rattle.std.proofs.lemmas.List.{length-map}
use Rattle.std.proofs.lemmas.List.FromFn.{length-range_with_len}
use Rattle.turn_lock.specs.Own.{own}
use Rattle.turn_lock.specs.Turns.{Grows}
use Rattle.turn_lock.specs.Words.{number, seen, split_off}
use Rattle.shared_store.specs.Seats.{HasAdded}
use Rattle.store_threads.proofs.Owners.{adds_all, zip_length, joinable}
use Rattle.store_threads.proofs.threads.add_by_many.Goals as goal

pub gathered-requires : goal.gathered-requires
gathered-requires g c =
    let seats = c.in_ok-seats.seats.items in
    let count : length seats ≡ c.args.threads = sym (length-map seats number) ∙ ap (λ (l : List ℕ). length l) c.in_ok-seats.ensures.numbers ∙ length-range_with_len (split_off c.args.first.now + 1) c.args.threads in
    let few = c.ranges.threads.fits in
    omega (arith, zip_length HasAdded seats c.in_ok-worked.worked.items c.in_ok-worked.ensures, count, few)

pub join_all-requires-clause-seats : goal.join_all-requires-clause-seats
join_all-requires-clause-seats g c =
    let back = joinable c.args.store.now c.args.first.now c.in_ok-seats.seats.items c.in_ok-seats-2.seats.items c.in_ok-worked.worked.items c.in_ok-seats.ensures.new c.in_ok-worked.ensures c.in_ok-seats-2.ensures.seats in
    (c.split_many.ensures.seat.0, λ k d h. (back k d h).0)

pub join_all-requires-clause-rest : goal.join_all-requires-clause-rest
join_all-requires-clause-rest g c =
    let back = joinable c.args.store.now c.args.first.now c.in_ok-seats.seats.items c.in_ok-seats-2.seats.items c.in_ok-worked.worked.items c.in_ok-seats.ensures.new c.in_ok-worked.ensures c.in_ok-seats-2.ensures.seats in
    (c.split_many.ensures.seat.1, λ k d h. (back k d h).1)

pub join_all-requires-clause-first : goal.join_all-requires-clause-first
join_all-requires-clause-first g c =
    let back = joinable c.args.store.now c.args.first.now c.in_ok-seats.seats.items c.in_ok-seats-2.seats.items c.in_ok-worked.worked.items c.in_ok-seats.ensures.new c.in_ok-worked.ensures c.in_ok-seats-2.ensures.seats in
    (c.split_many.ensures.seat.2, λ k d h. (back k d h).2)

pub returns-clause-all : goal.returns-clause-all
returns-clause-all g c =
    let split = c.in_ok-seats.ensures in
    let join = c.join_all.ensures in
    let new = c.join_all.new.seat in
    let seats = c.in_ok-seats.seats.items in
    let worked = c.in_ok-worked.worked.items in
    let others = c.in_ok-seats-2.seats.items in
    let count : length seats ≡ c.args.threads = sym (length-map seats number) ∙ ap (λ (l : List ℕ). length l) split.numbers ∙ length-range_with_len (split_off c.args.first.now + 1) c.args.threads in
    let back : length others ≡ length worked = ap (λ (l : List _). length l) c.in_ok-seats-2.ensures.seats ∙ length-map worked (λ w. w.0) in
    let some = c.requires.some in
    let theirs = subst (λ (l : List _). All (λ s. Grows (λ k. k ≢ number s) (seen s) (seen new)) l) c.in_ok-seats-2.ensures.seats join.theirs in
    adds_all c.args.store.now c.args.first.now c.split_many.new.seat new c.args.threads seats worked c.requires.seat.2 c.requires.none split.seat.2 split.counts.0 split.seen split.numbers split.new c.in_ok-worked.ensures
    join.counts.0 join.own theirs (join.numbered (omega (arith, back, zip_length HasAdded seats worked c.in_ok-worked.ensures, count, some)))
    ∙ ap (λ (k : ℕ). length (own (number c.args.first.now) (seen c.args.first.now)) + k) (sym c.in_ok-seats-2.ensures.added)
