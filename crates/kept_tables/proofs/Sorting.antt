-- Two lists of one content, of which one rises and the other never falls, are one list.
use Rattle.std.proofs.Common.{◌≡◌, ◌⊎◌, ℕ, zero, suc, ◌<◌, ◌≤◌, Bool, true, false, cond, List, [], ◌∷◌, length, get_or, refl, sym, ap, ◌∙◌, subst, inl, inr, arith}
use Rattle.std.specs.Prelude.{◌==◌, nat_lt as ltb, Contains}
use Rattle.std.specs.List.{sum_by}
use Rattle.std.specs.List.Sorted.{IsNonDecreasingBy, IsPermutation}
use Rattle.std.proofs.lemmas.Bool.{eq-eqb, eqb-true, ltb-true, ltb-false}
use Rattle.std.proofs.lemmas.List.Sorted.{sum_by-IsPermutation, Contains-permutation, IsPermutation-sym}
use Rattle.std.proofs.lemmas.List.Elements.{Contains-append_right}
use Rattle.std.proofs.lemmas.List.Sums.{sum_by-cons}

module _ {X : Type 0} (n : X → ℕ) where
  -- the numbers rise, each beyond this one
  abbrev pub Rises : ℕ → List X → Type 0
  Rises m [] = Unit {0}
  Rises m (x ∷ xs) = (m < n x) × Rises (n x) xs

  -- the numbers never fall below this one
  abbrev pub Climbs : ℕ → List X → Type 0
  Climbs m [] = Unit {0}
  Climbs m (x ∷ xs) = (m ≤ n x) × Climbs (n x) xs

  abbrev at_key : ℕ → X → ℕ
  at_key k x = cond (n x == k) 1 0

  one_at : (x : X) → at_key (n x) x ≡ 1
  one_at x = ap (λ b. cond b 1 0) (eq-eqb (n x) (n x) refl)

  none_at : (k : ℕ) (x : X) → k < n x → at_key k x ≡ 0
  none_at k x below = by (n x == k) refl
    where
      by : (b : Bool) → (n x == k) ≡ b → cond b (suc zero) zero ≡ zero
      by false e = refl
      by true e = absurd (let same = eqb-true (n x) k e in let no : ⊥ = omega (arith, below, same) in no)

  some_at : (x : X) (xs : List X) → 1 ≤ sum_by (at_key (n x)) (x ∷ xs)
  some_at x xs = let all = sum_by-cons (at_key (n x)) x xs in let one = one_at x in omega (arith, all, one)

  none_rising : (k m : ℕ) (xs : List X) → k ≤ m → Rises m xs → sum_by (at_key k) xs ≡ 0
  none_rising k m [] below h = refl
  none_rising k m (x ∷ xs) below h =
      let first = h.0 in
      let all = sum_by-cons (at_key k) x xs in
      let none = none_at k x (omega (arith, below, first)) in
      let rest = none_rising k (n x) xs (omega (arith, below, first)) h.1 in
      omega (arith, all, none, rest)

  none_climbing : (k m : ℕ) (xs : List X) → k < m → Climbs m xs → sum_by (at_key k) xs ≡ 0
  none_climbing k m [] below h = refl
  none_climbing k m (x ∷ xs) below h =
      let first = h.0 in
      let all = sum_by-cons (at_key k) x xs in
      let none = none_at k x (omega (arith, below, first)) in
      let rest = none_climbing k (n x) xs (omega (arith, below, first)) h.1 in
      omega (arith, all, none, rest)

  -- no member of a list that rises from here on has this number
  member_above : (m : ℕ) (xs : List X) (z : X) → Rises m xs → Contains xs z → m < n z
  member_above m [] z h (k, lt, is) = absurd (let no : ⊥ = omega (arith, lt) in no)
  member_above m (x ∷ xs) z h (zero, lt, is) = let first = h.0 in let same = ap n is in omega (arith, first, same)
  member_above m (x ∷ xs) z h (suc k, lt, is) = let later = member_above (n x) xs z h.1 (k, omega (arith, lt), is) in let first = h.0 in omega (arith, first, later)

  head_or_tail : (x : X) (xs : List X) (z : X) → Contains (x ∷ xs) z → (x ≡ z) ⊎ Contains xs z
  head_or_tail x xs z (zero, lt, is) = inl is
  head_or_tail x xs z (suc k, lt, is) = inr (k, omega (arith, lt), is)

  counted : (xs : List X) (z : X) → Contains xs z → 1 ≤ sum_by (at_key (n z)) xs
  counted [] z (k, lt, is) = absurd (let no : ⊥ = omega (arith, lt) in no)
  counted (x ∷ xs) z (zero, lt, is) = subst (λ w. 1 ≤ sum_by (at_key (n w)) (x ∷ xs)) is (some_at x xs)
  counted (x ∷ xs) z (suc k, lt, is) = let all = sum_by-cons (at_key (n z)) x xs in let rest = counted xs z (k, omega (arith, lt), is) in omega (arith, all, rest)

  only : (x : X) (xs : List X) → Rises (n x) xs → sum_by (at_key (n x)) (x ∷ xs) ≡ 1
  only x xs up = let all = sum_by-cons (at_key (n x)) x xs in let one = one_at x in let rest = none_rising (n x) (n x) xs (omega arith) up in omega (arith, all, one, rest)

  -- the same elements, each as often
  pub record Alike (xs ys : List X) : Type 0 where
    pub sums : (f : X → ℕ) → sum_by f ys ≡ sum_by f xs
    pub members : (z : X) → Contains ys z → Contains xs z

  pub unique : (m l : ℕ) (xs ys : List X) → Rises m xs → Climbs l ys → Alike xs ys → ys ≡ xs
  unique m l [] [] up along alike = refl
  unique m l [] (y ∷ ys) up along alike = absurd (let some = some_at y ys in let same = alike.sums (at_key (n y)) in let no : ⊥ = omega (arith, some, same) in no)
  unique m l (x ∷ xs) [] up along alike = absurd (let some = some_at x xs in let same = alike.sums (at_key (n x)) in let no : ⊥ = omega (arith, some, same) in no)
  unique m l (x ∷ xs) (y ∷ ys) up along alike =
      let heads = same_heads (head_or_tail x xs y (alike.members y (zero, omega arith, refl))) in
      let tails = unique (n x) (n y) xs ys up.1 along.1 (record {
        sums = λ f. let all = alike.sums f in let left = sum_by-cons f y ys in let right = sum_by-cons f x xs in let same = ap f heads in omega (arith, all, left, right, same);
        members = λ z among. tail_member z among (head_or_tail x xs z (alike.members z (Contains-append_right (y ∷ []) ys z among)));
      }) in
      ap (λ zs. y ∷ zs) tails ∙ ap (λ w. w ∷ xs) (sym heads)
    where
      not_below : n y ≤ n x
      not_below = by (ltb (n x) (n y)) refl
        where
          by : (b : Bool) → ltb (n x) (n y) ≡ b → n y ≤ n x
          by false e = ltb-false (n x) (n y) e
          by true e =
              let below = ltb-true (n x) (n y) e in
              let some = some_at x xs in
              let none = none_climbing (n x) (n y) (y ∷ ys) below (omega arith, along.1) in
              let same = alike.sums (at_key (n x)) in
              absurd (let no : ⊥ = omega (arith, some, none, same) in no)

      same_heads : (x ≡ y) ⊎ Contains xs y → x ≡ y
      same_heads (inl is) = is
      same_heads (inr later) = absurd (let above = member_above (n x) xs y up.1 later in let at = not_below in let no : ⊥ = omega (arith, above, at) in no)

      tail_member : (z : X) → Contains ys z → (x ≡ z) ⊎ Contains xs z → Contains xs z
      tail_member z among (inr later) = later
      tail_member z among (inl is) =
          let here = same_heads (head_or_tail x xs y (alike.members y (zero, omega arith, refl))) in
          let often = counted ys z among in
          let left = sum_by-cons (at_key (n z)) y ys in
          let one = subst (λ w. at_key (n z) w ≡ 1) (sym is ∙ here) (one_at z) in
          let right = subst (λ w. sum_by (at_key (n w)) (x ∷ xs) ≡ 1) is (only x xs up.1) in
          let same = alike.sums (at_key (n z)) in
          absurd (let no : ⊥ = omega (arith, often, left, one, right, same) in no)

  climbs_from : (m : ℕ) (ys : List X) → ((j : ℕ) (d : X) → j < length ys → m ≤ n (get_or ys j d)) → IsNonDecreasingBy n ys → Climbs m ys
  climbs_from m [] least h = tt
  climbs_from m (y ∷ ys) least h = (
    least zero y (omega arith),
    climbs_from (n y) ys (λ j d lt. h zero (suc j) d (omega arith) (omega (arith, lt))) (λ i j d le lt. h (suc i) (suc j) d (omega (arith, le)) (omega (arith, lt))),
  )

  pub climbs : (ys : List X) → IsNonDecreasingBy n ys → Climbs zero ys
  climbs ys h = climbs_from zero ys (λ j d lt. omega arith) h

  -- what a sort by the number gives of a list that can rise
  pub sorted_is : (xs ys zs : List X) → IsPermutation zs ys → IsNonDecreasingBy n ys → IsPermutation zs xs → Rises zero xs → ys ≡ xs
  sorted_is xs ys zs to_ys along to_xs up =
      unique zero zero xs ys up (climbs ys along) (record {
        sums = λ f. sum_by-IsPermutation f zs ys to_ys ∙ sym (sum_by-IsPermutation f zs xs to_xs);
        members = λ z among. Contains-permutation zs xs z to_xs (Contains-permutation ys zs z (IsPermutation-sym zs ys to_ys) among);
      })
