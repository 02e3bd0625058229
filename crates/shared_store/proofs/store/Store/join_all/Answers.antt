use Rattle.std.proofs.Common.{◌≡◌, ◌≢◌, ◌+◌, ◌∷◌, ◌++◌, [], List, length, All, sym, ap, ◌∙◌, subst, arith, append_assoc, append-nil}
use Rattle.std.specs.Vec.Iter.{into_iter_items}
use Rattle.turn_lock.specs.Turns.{Grows}
use Rattle.turn_lock.specs.Words.{number, seen}
use Rattle.shared_store.proofs.Seats.{joins_one, none_of}
use Rattle.shared_store.proofs.store.Store.join_all.Goals as goal

pub loop-other-preserved : goal.loop-other-preserved
loop-other-preserved c =
    let before = c.loop-other.invariant in
    let step = c.in-Some.ensures.steps in
    let join = c.join.ensures in
    let fewer : length (into_iter_items c.loop-other.other-iterator) ≡ length (into_iter_items c.next.new.self) + 1 = ap (λ (l : List _). length l) step.0 ∙ omega arith in (
      tt,
      tt,
      omega (arith, before.2, step.1, fewer),
      before.3 ∙ ap (λ (l : List _). c.loop-other.yielded ++ l) step.0 ∙ sym (append_assoc c.loop-other.yielded (c.in-Some.other ∷ []) (into_iter_items c.next.new.self)),
      joins_one c.args.self.now c.args.seat.now c.loop-other.seat c.join.new.seat c.in-Some.other c.loop-other.yielded c.requires.first.0 before.4 join.seat join.counts join.out join.one join.own join.theirs join.numbered,
    )

pub returns-clause-theirs : goal.returns-clause-theirs
returns-clause-theirs c =
    let i = c.loop-other.invariant in
    let none = none_of (into_iter_items c.loop-other.other-iterator) (sym i.2 ∙ c.in-None.ensures.steps.0) in
    let all : c.args.others.items ≡ c.loop-other.yielded = i.3 ∙ ap (λ (l : List _). c.loop-other.yielded ++ l) none ∙ append-nil c.loop-other.yielded in
    subst (λ (l : List _). All (λ s. Grows (λ n. n ≢ number s) (seen s) (seen c.loop-other.seat)) l) (sym all) i.4.theirs
