use Rattle.std.proofs.Common.{rules, ◌≡◌, ◌+◌, ◌<◌, ◌∷◌, ◌++◌, [], List, length, sym, ap, ◌∙◌, arith, append_assoc, length-append}
use Rattle.std.specs.Vec.Iter.{into_iter_items}
use mathlib.Core.List.{map-append}
use Rattle.turn_lock.proofs.Lists.{total_snoc}
use Rattle.store_threads.proofs.threads.gathered.Goals as goal

pub loop-one-preserved : goal.loop-one-preserved
loop-one-preserved c =
    let before = c.loop-one.invariant in
    let step = c.in-Some.ensures.steps in
    let done = c.loop-one.yielded in
    let one = c.in-Some.one in
    let fewer : length (into_iter_items c.loop-one.one-iterator) ≡ length (into_iter_items c.next.new.self) + 1 = ap (λ (l : List _). length l) step.0 ∙ omega arith in
    let long : length (done ++ one ∷ []) ≡ length done + 1 = length-append done (one ∷ []) in
    let sums = total_snoc (λ w. w.1) done one in
    let more = c.from-all.ensures in
    let small : one.1 < 4294967296 = search rules in (
      tt,
      tt,
      omega (arith, before.2, step.1, fewer),
      before.3 ∙ ap (λ (l : List _). done ++ l) step.0 ∙ sym (append_assoc done (one ∷ []) (into_iter_items c.next.new.self)),
      c.in_ok-push.ensures.items ∙ ap (λ (l : List _). l ++ one.0 ∷ []) before.4 ∙ sym (map-append (λ w. w.0) done (one ∷ [])),
      omega (arith, before.5, sums, more),
      omega (arith, before.6, long, more, small),
    )
