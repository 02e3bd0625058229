use Rattle.std.proofs.Common.{◌≡◌, ◌≢◌, ℕ, ◌≤◌, ◌%◌, ◌^◌, ◌*◌, ◌<◌, List, [], ◌∷◌, ◌++◌, length, replicate, All, sym, ap, ◌∙◌, subst, arith, mod-eq_of_lt}
use Rattle.std.proofs.lemmas.List.{length-replicate, length-map}
use Rattle.turn_lock.specs.Own.{own}
use Rattle.turn_lock.specs.Turns.{IsAbsent, entries}
use Rattle.turn_lock.specs.Words.{number, seen, joined, split_off, IsOther}
use Rattle.turn_lock.proofs.Lists.{all_head}
use Rattle.turn_lock.proofs.Owned.{own-grows, three_owners}
use Rattle.turn_lock.proofs.tests.two_threads.Goals as goal

pub returns : goal.returns
returns g c =
    let turns : ℕ = c.args.turns in
    let made = c.in_ok-lock.ensures.first in
    let one = c.in_ok-one in
    let two = c.in_ok-two in
    let back = c.take_both-one.ensures in
    let n1 : number one.one ≡ 1 = omega (arith, one.ensures.same.0, one.ensures.counts.0, made.1) in
    let n2 : number two.two ≡ 2 = omega (arith, two.ensures.same.0, two.ensures.counts.0, one.ensures.counts.0, made.1) in
    let b1 : number c.take_both-one.result.0 ≡ 1 = back.first.0.number ∙ n1 in
    let b2 : number c.take_both-one.result.1 ≡ 2 = back.second.0.number ∙ n2 in
    let s1 : seen one.one ≡ [] = one.ensures.same.1 ∙ made.3 in
    let s2 : seen two.two ≡ [] = two.ensures.same.1 ∙ (one.ensures.counts.2 ∙ made.3) in
    let all : List (ℕ × ℕ) = seen c.join-2.new.seat in
    let ones : own 1 (seen c.take_both-one.result.0) ≡ replicate turns 1 =
    subst (λ (k : ℕ). own k (seen c.take_both-one.result.0) ≡ own k [] ++ replicate turns 1) n1 (back.first.2 ∙ ap (λ (l : List (ℕ × ℕ)). own (number one.one) l ++ replicate turns 1) s1) in
    let twos : own 2 (seen c.take_both-one.result.1) ≡ replicate turns 1 =
    subst (λ (k : ℕ). own k (seen c.take_both-one.result.1) ≡ own k [] ++ replicate turns 1) n2 (back.second.2 ∙ ap (λ (l : List (ℕ × ℕ)). own (number two.two) l ++ replicate turns 1) s2) in
    let first = c.join.ensures in
    let last = c.join-2.ensures in
    let middle : List (ℕ × ℕ) = seen c.join.new.seat in
    let is_first : number c.join.new.seat ≡ 0 = first.seat.2 in
    let zero_before : number c.split-2.new.seat ≡ 0 = two.ensures.seat.2 in
    let nothing : seen c.split-2.new.seat ≡ [] = two.ensures.counts.2 ∙ (one.ensures.counts.2 ∙ made.3) in
    let gone : joined c.join.new.seat ≡ number c.take_both-one.result.0 ∷ joined c.split-2.new.seat = first.counts.1 in
    let o1 : own 1 all ≡ replicate turns 1 =
    own-grows 1 (IsOther c.join.new.seat) (λ k h e. all_head (λ (m : ℕ). m ≢ k) (number c.take_both-one.result.0) (joined c.split-2.new.seat) (subst (λ (ks : List ℕ). IsAbsent ks k) gone h.1) (b1 ∙ sym e)) middle all last.own
    ∙ (own-grows 1 (λ k. k ≢ number c.take_both-one.result.0) (λ k h e. h (e ∙ sym b1)) (seen c.take_both-one.result.0) middle first.theirs ∙ ones) in
    let o2 : own 2 all ≡ replicate turns 1 =
    own-grows 2 (λ k. k ≢ number c.take_both-one.result.1) (λ k h e. h (e ∙ sym b2)) (seen c.take_both-one.result.1) all last.theirs ∙ twos in
    let o0 : own 0 all ≡ [] =
    own-grows 0 (IsOther c.join.new.seat) (λ k h e. h.0 (e ∙ sym is_first)) middle all last.own
    ∙ (own-grows 0 (IsOther c.split-2.new.seat) (λ k h e. h.0 (e ∙ sym zero_before)) (seen c.split-2.new.seat) middle first.own ∙ ap (λ (l : List (ℕ × ℕ)). own 0 l) nothing) in
    let split : split_off c.join-2.new.seat ≡ 2 = omega (arith, last.counts.0, first.counts.0, two.ensures.counts.0, one.ensures.counts.0, made.1) in
    let low : All (λ (x : ℕ × ℕ). x.0 ≤ 2) all = subst (λ (k : ℕ). All (λ (x : ℕ × ℕ). x.0 ≤ k) all) split last.numbered in
    let long : length all ≡ 2 * turns = omega (arith, three_owners all low, ap (λ (l : List ℕ). length l) o0, ap (λ (l : List ℕ). length l) o1 ∙ length-replicate turns 1, ap (λ (l : List ℕ). length l) o2 ∙ length-replicate turns 1) in
    let count : length (entries all) ≡ 2 * turns = length-map all (λ (x : ℕ × ℕ). x.1) ∙ long in
    let few : turns < 2 ^ 32 = c.requires in
    let small : 2 * turns < 2 ^ 64 = omega arith in
    c.close-count.ensures ∙ (ap (λ (k : ℕ). k % 2 ^ 64) count ∙ mod-eq_of_lt small)
