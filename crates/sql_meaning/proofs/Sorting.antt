-- A stable sort is determined by its order: it is the stable insertion.
use Rattle.std.proofs.Common.{◌≡◌, ℕ, ◌≤◌, ◌<◌, zero, suc, refl, sym, ap, ap₂, ◌∙◌, Bool, true, false, cond, not, ◌&&◌, true≢false, List, [], ◌∷◌, length, get_or, filter, IsPermutation, add-one, arith}
use Rattle.std.specs.Cmp.{IsStrictWeakOrder}
use Rattle.std.specs.List.Sorted.{IsSortedBy, IsStableBy, ties}
use Rattle.std.proofs.lemmas.List.Sorted.{sorted_far, IsPermutation-refl, IsPermutation-cons, IsPermutation-middle, IsPermutation-trans}
use Rattle.sql_meaning.specs.Order.{put_in, sorted_by}

module _ {X : Type 0} (lt : X → X → Bool) where
  -- none of the list is less than x
  abbrev pub Above : X → List X → Type 0
  Above x [] = Unit {0}
  Above x (y ∷ ys) = (lt y x ≡ false) × Above x ys

  abbrev pub Rising : List X → Type 0
  Rising [] = Unit {0}
  Rising (x ∷ xs) = Above x xs × Rising xs

  above_of : (x : X) (xs : List X) → ((k : ℕ) → k < length xs → lt (get_or xs k x) x ≡ false) → Above x xs
  above_of x [] h = tt
  above_of x (y ∷ ys) h = (h 0 (omega arith), above_of x ys (λ k p. h (suc k) (omega arith)))

  rising_of : (xs : List X) → ((i j : ℕ) (d : X) → i ≤ j → j < length xs → lt (get_or xs j d) (get_or xs i d) ≡ false) → Rising xs
  rising_of [] h = tt
  rising_of (x ∷ xs) h = (above_of x xs (λ k p. h 0 (suc k) x (omega arith) (omega arith)), rising_of xs (λ i j d p q. h (suc i) (suc j) d (omega arith) (omega arith)))

  module _ (o : IsStrictWeakOrder lt) where
    irreflexive : (x : X) → lt x x ≡ false
    irreflexive x = by (lt x x) refl
      where
        by : (s : Bool) → lt x x ≡ s → s ≡ false
        by true p = sym p ∙ o.one_way x x p
        by false p = refl

    ties_itself : (x : X) → ties lt x x ≡ true
    ties_itself x = λ i. not (irreflexive x i) && not (irreflexive x i)

    -- what ties isn't less either way
    ties_first : (x y : X) → ties lt x y ≡ true → lt x y ≡ false
    ties_first x y h = by (lt x y) (lt y x) h
      where
        by : (s t : Bool) → (not s && not t) ≡ true → s ≡ false
        by true t h = absurd (true≢false (sym h))
        by false t h = refl

    ties_second : (x y : X) → ties lt x y ≡ true → lt y x ≡ false
    ties_second x y h = by (lt x y) (lt y x) h
      where
        by : (s t : Bool) → (not s && not t) ≡ true → t ≡ false
        by true t h = absurd (true≢false (sym h))
        by false true h = absurd (true≢false (sym h))
        by false false h = refl

    ties_of : (x y : X) → lt x y ≡ false → lt y x ≡ false → ties lt x y ≡ true
    ties_of x y p q = λ i. not (p i) && not (q i)

    above_lower : (x y : X) → lt y x ≡ false → (xs : List X) → Above y xs → Above x xs
    above_lower x y h [] a = tt
    above_lower x y h (z ∷ zs) a = (o.chain z y x a.0 h, above_lower x y h zs a.1)

    below_step : (x y z w : X) (ws rest : List X) → lt w y ≡ false → (filter (ties lt x) ws ≡ z ∷ rest → lt x y ≡ false)
        → (s : Bool) → ties lt x w ≡ s → cond s (w ∷ filter (ties lt x) ws) (filter (ties lt x) ws) ≡ z ∷ rest → lt x y ≡ false
    below_step x y z w ws rest a further true p e = o.chain x w y (ties_first x w p) a
    below_step x y z w ws rest a further false p e = further e

    -- where something of a list ties with x, and none of the list is less than y, neither is x
    below_tie : (x y z : X) (zs rest : List X) → Above y zs → filter (ties lt x) zs ≡ z ∷ rest → lt x y ≡ false
    below_tie x y z [] rest a h = cc
    below_tie x y z (w ∷ ws) rest a h = below_step x y z w ws rest a.0 (below_tie x y z ws rest a.1) (ties lt x w) refl h

    keeps : (x : X) (xs : List X) → filter (ties lt x) (x ∷ xs) ≡ x ∷ filter (ties lt x) xs
    keeps x xs = ap (λ (s : Bool). cond s (x ∷ filter (ties lt x) xs) (filter (ties lt x) xs)) (ties_itself x)

    tail_of : (y : X) (lefts rights : List X) (s : Bool) → cond s (y ∷ lefts) lefts ≡ cond s (y ∷ rights) rights → lefts ≡ rights
    tail_of y lefts rights true e = cc
    tail_of y lefts rights false e = e

    not_empty : (z : X) (zs : List X) → [] ≡ filter (ties lt z) (z ∷ zs) → ⊥
    not_empty z zs h = let e : [] ≡ z ∷ filter (ties lt z) zs = h ∙ keeps z zs in cc

    -- the heads of two lists that rise and have the same ties are equal
    same_head : (y z : X) (ys zs : List X) → Rising (y ∷ ys) → Rising (z ∷ zs) → ((x : X) → filter (ties lt x) (y ∷ ys) ≡ filter (ties lt x) (z ∷ zs)) → y ≡ z
    same_head y z ys zs up up' same =
        let low : lt z y ≡ false = below_tie z y z (y ∷ ys) (filter (ties lt z) zs) (irreflexive y, up.0) (same z ∙ keeps z zs) in
        let high : lt y z ≡ false = below_tie y z y (z ∷ zs) (filter (ties lt y) ys) (irreflexive z, up'.0) (sym (same y) ∙ keeps y ys) in
        let tied : filter (ties lt y) (z ∷ zs) ≡ z ∷ filter (ties lt y) zs = ap (λ (s : Bool). cond s (z ∷ filter (ties lt y) zs) (filter (ties lt y) zs)) (ties_of y z high low) in
        let both : y ∷ filter (ties lt y) ys ≡ z ∷ filter (ties lt y) zs = sym (keeps y ys) ∙ same y ∙ tied in
        cc

    -- lists that rise and have the same ties in the same order are equal
    pub only_one : (ys zs : List X) → Rising ys → Rising zs → ((x : X) → filter (ties lt x) ys ≡ filter (ties lt x) zs) → ys ≡ zs
    only_one [] [] up up' same = refl
    only_one [] (z ∷ zs) up up' same = absurd (not_empty z zs (same z))
    only_one (y ∷ ys) [] up up' same = absurd (not_empty y ys (sym (same y)))
    only_one (y ∷ ys) (z ∷ zs) up up' same =
        let head : y ≡ z = same_head y z ys zs up up' same in
        ap₂ (λ (x : X) (xs : List X). x ∷ xs) head
        (only_one ys zs up.1 up'.1
        (λ x. tail_of y (filter (ties lt x) ys) (filter (ties lt x) zs) (ties lt x y) (same x ∙ ap (λ (w : X). cond (ties lt x w) (w ∷ filter (ties lt x) zs) (filter (ties lt x) zs)) (sym head))))

    above_if : (w x y : X) (ys rest : List X) (s : Bool) → lt x w ≡ false → lt y w ≡ false → Above w ys → Above w rest → Above w (cond s (y ∷ rest) (x ∷ y ∷ ys))
    above_if w x y ys rest true p q a b = (q, b)
    above_if w x y ys rest false p q a b = (p, (q, a))

    above_put : (w x : X) (ys : List X) → lt x w ≡ false → Above w ys → Above w (put_in lt x ys)
    above_put w x [] p a = (p, tt)
    above_put w x (y ∷ ys) p a = above_if w x y ys (put_in lt x ys) (lt y x) p a.0 a.1 (above_put w x ys p a.1)

    rising_if : (x y : X) (ys : List X) (s : Bool) → lt y x ≡ s → Above y ys → Rising ys → Rising (put_in lt x ys) → Rising (cond s (y ∷ put_in lt x ys) (x ∷ y ∷ ys))
    rising_if x y ys true p a up rest = (above_put y x ys (o.one_way y x p) a, rest)
    rising_if x y ys false p a up rest = ((p, above_lower x y p ys a), (a, up))

    rising_put : (x : X) (ys : List X) → Rising ys → Rising (put_in lt x ys)
    rising_put x [] up = (tt, tt)
    rising_put x (y ∷ ys) up = rising_if x y ys (lt y x) refl up.0 up.1 (rising_put x ys up.1)

    rising_sorted : (xs : List X) → Rising (sorted_by lt xs)
    rising_sorted [] = tt
    rising_sorted (x ∷ xs) = rising_put x (sorted_by lt xs) (rising_sorted xs)

    -- one that is less than x doesn't tie with what x ties with
    passed : (w x y : X) (kept : List X) → lt y x ≡ true → (s t : Bool) → ties lt w x ≡ s → ties lt w y ≡ t
        → cond t (y ∷ cond s (x ∷ kept) kept) (cond s (x ∷ kept) kept) ≡ cond s (x ∷ cond t (y ∷ kept) kept) (cond t (y ∷ kept) kept)
    passed w x y kept h true true p q = absurd (true≢false (sym h ∙ o.chain y w x (ties_second w y q) (ties_first w x p)))
    passed w x y kept h true false p q = refl
    passed w x y kept h false true p q = refl
    passed w x y kept h false false p q = refl

    put_if : (w x y : X) (ys : List X) → filter (ties lt w) (put_in lt x ys) ≡ filter (ties lt w) (x ∷ ys) → (s : Bool) → lt y x ≡ s
        → filter (ties lt w) (cond s (y ∷ put_in lt x ys) (x ∷ y ∷ ys)) ≡ filter (ties lt w) (x ∷ y ∷ ys)
    put_if w x y ys h true p = ap (λ (kept : List X). cond (ties lt w y) (y ∷ kept) kept) h ∙ passed w x y (filter (ties lt w) ys) p (ties lt w x) (ties lt w y) refl refl
    put_if w x y ys h false p = refl

    ties_put : (w x : X) (ys : List X) → filter (ties lt w) (put_in lt x ys) ≡ filter (ties lt w) (x ∷ ys)
    ties_put w x [] = refl
    ties_put w x (y ∷ ys) = put_if w x y ys (ties_put w x ys) (lt y x) refl

    ties_sorted : (w : X) (xs : List X) → filter (ties lt w) (sorted_by lt xs) ≡ filter (ties lt w) xs
    ties_sorted w [] = refl
    ties_sorted w (x ∷ xs) = ties_put w x (sorted_by lt xs) ∙ ap (λ (kept : List X). cond (ties lt w x) (x ∷ kept) kept) (ties_sorted w xs)

    -- what a stable sort leaves
    pub stable_sort-is : (xs ys : List X) → IsSortedBy lt ys → IsStableBy lt xs ys → ys ≡ sorted_by lt xs
    stable_sort-is xs ys up stable = only_one ys (sorted_by lt xs) (rising_of ys (sorted_far lt o ys up)) (rising_sorted xs) (λ x. stable x ∙ sym (ties_sorted x xs))

    next_of : (xs : List X) (k : ℕ) (d : X) → Rising xs → suc k < length xs → lt (get_or xs (suc k) d) (get_or xs k d) ≡ false
    next_of [] k d up h = absurd (omega arith)
    next_of (a ∷ []) k d up h = absurd (omega arith)
    next_of (a ∷ b ∷ rest) zero d up h = up.0.0
    next_of (a ∷ b ∷ rest) (suc k) d up h = next_of (b ∷ rest) k d up.1 (omega arith)

    pub sorted_by-IsSortedBy : (xs : List X) → IsSortedBy lt (sorted_by lt xs)
    sorted_by-IsSortedBy xs k d low h =
        ap (λ (n : ℕ). lt (get_or (sorted_by lt xs) n d) (get_or (sorted_by lt xs) k d)) (add-one k) ∙ next_of (sorted_by lt xs) k d (rising_sorted xs) (omega arith)

    pub sorted_by-IsStableBy : (xs : List X) → IsStableBy lt xs (sorted_by lt xs)
    sorted_by-IsStableBy xs x = ties_sorted x xs

  permuted_if : (x y : X) (ys : List X) → IsPermutation (x ∷ ys) (put_in lt x ys) → (s : Bool) → IsPermutation (x ∷ y ∷ ys) (cond s (y ∷ put_in lt x ys) (x ∷ y ∷ ys))
  permuted_if x y ys h true = IsPermutation-trans _ _ _ (IsPermutation-middle (x ∷ []) y ys) (IsPermutation-cons y (x ∷ ys) (put_in lt x ys) h)
  permuted_if x y ys h false = IsPermutation-refl (x ∷ y ∷ ys)

  permuted_put : (x : X) (ys : List X) → IsPermutation (x ∷ ys) (put_in lt x ys)
  permuted_put x [] = IsPermutation-refl (x ∷ [])
  permuted_put x (y ∷ ys) = permuted_if x y ys (permuted_put x ys) (lt y x)

  pub sorted_by-IsPermutation : (xs : List X) → IsPermutation xs (sorted_by lt xs)
  sorted_by-IsPermutation [] = IsPermutation-refl []
  sorted_by-IsPermutation (x ∷ xs) = IsPermutation-trans _ _ _ (IsPermutation-cons x xs (sorted_by lt xs) (sorted_by-IsPermutation xs)) (permuted_put x (sorted_by lt xs))
