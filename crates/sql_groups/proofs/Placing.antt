-- Rows that come behind others, among the first of them in an order.
use Rattle.std.proofs.Common.{◌≡◌, ℕ, ◌-◌, ◌≤◌, zero, suc, refl, sym, ap, subst, ◌∙◌, Bool, true, false, cond, not, true≢false, List, [], ◌∷◌, ◌++◌, append-nil, filter, length, take, Some, arith}
use Rattle.std.specs.Prelude.{slice_get}
use Rattle.std.specs.Cmp.{IsStrictWeakOrder}
use Rattle.std.proofs.lemmas.List.{length-append}
use Rattle.std.proofs.lemmas.List.Elements.{filter-append}
use Rattle.std.proofs.lemmas.Option.{none-some, same_Some}
use Rattle.sql_meaning.specs.Order.{put_in, sorted_by}
use Rattle.sql_groups.specs.Leading.{Climbs}
use Rattle.sql_groups.proofs.Climbing.{climbs-rest, sorted-climbs, taken-sorted}
use Rattle.sql_groups.proofs.Passing.{Every, every-kept}
use Rattle.sql_groups.proofs.Taken.{put-taken, take-take}

-- a list with its last
parted : {X : Type 0} (xs : List X) (last : X) → Some last ≡ slice_get xs (length xs - 1) → (ys : List X) × (xs ≡ ys ++ last ∷ [])
parted [] last is = absurd (none-some last (sym is))
parted (x ∷ []) last is = ([], ap (λ y. y ∷ []) (sym (same_Some last x is)))
parted (x ∷ y ∷ ys) last is =
    let one : length (x ∷ y ∷ ys) - 1 ≡ suc (length (y ∷ ys) - 1) = omega arith in
    let rest = parted (y ∷ ys) last (is ∙ ap (slice_get (x ∷ y ∷ ys)) one) in
    (x ∷ rest.0, ap (λ zs. x ∷ zs) {y = rest.0 ++ last ∷ []} rest.1)

module _ {X : Type 0} (lt : X → X → Bool) where
  -- where x comes behind y, it goes behind it unless it is less
  abbrev pub stays : X → X → Bool
  stays y x = not (lt x y)

  -- how many pass a test is the same in order
  counted : (p : X → Bool) (x y : X) (some put : List X) → length (filter p put) ≡ length (filter p (x ∷ some)) → (s : Bool) → length (filter p (cond s (y ∷ put) (x ∷ y ∷ some))) ≡ length (filter p (x ∷ y ∷ some))
  counted p x y some put h true = by (p x) (p y) h
    where
      by : (s t : Bool) → length (filter p put) ≡ length (cond s (x ∷ filter p some) (filter p some))
          → length (cond t (y ∷ filter p put) (filter p put)) ≡ length (cond s (x ∷ cond t (y ∷ filter p some) (filter p some)) (cond t (y ∷ filter p some) (filter p some)))
      by true true h = omega (arith, h)
      by true false h = omega (arith, h)
      by false true h = omega (arith, h)
      by false false h = omega (arith, h)
  counted p x y some put h false = refl

  put-count : (p : X → Bool) (x : X) (ys : List X) → length (filter p (put_in lt x ys)) ≡ length (filter p (x ∷ ys))
  put-count p x [] = refl
  put-count p x (y ∷ ys) = counted p x y ys (put_in lt x ys) (put-count p x ys) (lt y x)

  sorted-count : (p : X → Bool) (xs : List X) → length (filter p (sorted_by lt xs)) ≡ length (filter p xs)
  sorted-count p [] = refl
  sorted-count p (x ∷ xs) = put-count p x (sorted_by lt xs) ∙ by (sorted-count p xs) (p x)
    where
      by : length (filter p (sorted_by lt xs)) ≡ length (filter p xs) → (s : Bool) → length (cond s (x ∷ filter p (sorted_by lt xs)) (filter p (sorted_by lt xs))) ≡ length (cond s (x ∷ filter p xs) (filter p xs))
      by same true = ap suc same
      by same false = same

  module _ (o : IsStrictWeakOrder lt) where
    below : (x y z : X) → lt z y ≡ false → lt z x ≡ true → lt y x ≡ true
    below x y z p q = by (lt y x) refl
      where
        by : (s : Bool) → lt y x ≡ s → s ≡ true
        by true r = refl
        by false r = absurd (true≢false (sym q ∙ o.chain z y x p r))

    -- one before and one behind are put in alike in either turn
    commute : (x y : X) (zs : List X) → put_in lt y (put_in stays x zs) ≡ put_in stays x (put_in lt y zs)
    commute x y [] = by (lt x y)
      where
        by : (s : Bool) → cond s (x ∷ y ∷ []) (y ∷ x ∷ []) ≡ cond (not s) (y ∷ x ∷ []) (x ∷ y ∷ [])
        by true = refl
        by false = refl
    commute x y (z ∷ zs) = by (commute x y zs) (lt x z) (lt z y) refl refl
      where
        ahead : List X
        ahead = put_in lt y zs

        behind : List X
        behind = put_in stays x zs

        swapped : (s : Bool) → cond s (x ∷ y ∷ z ∷ zs) (y ∷ x ∷ z ∷ zs) ≡ cond (not s) (y ∷ x ∷ z ∷ zs) (x ∷ y ∷ z ∷ zs)
        swapped true = refl
        swapped false = refl

        less : lt x z ≡ true → lt z y ≡ true → lt x y ≡ true
        less p q = by (lt x y) refl
          where
            by : (s : Bool) → lt x y ≡ s → s ≡ true
            by true r = refl
            by false r = absurd (true≢false (sym p ∙ o.chain x y z r (o.one_way z y q)))

        by : put_in lt y (put_in stays x zs) ≡ put_in stays x (put_in lt y zs) → (s t : Bool) → lt x z ≡ s → lt z y ≡ t
            → put_in lt y (cond (not s) (z ∷ put_in stays x zs) (x ∷ z ∷ zs)) ≡ put_in stays x (cond t (z ∷ put_in lt y zs) (y ∷ z ∷ zs))
        by same false true p q =
            ap (λ (b : Bool). cond b (z ∷ put_in lt y (put_in stays x zs)) (y ∷ z ∷ put_in stays x zs)) q
            ∙ ap (λ rest. z ∷ rest) same
            ∙ sym (ap (λ (b : Bool). cond (not b) (z ∷ put_in stays x (put_in lt y zs)) (x ∷ z ∷ put_in lt y zs)) p)
        by same false false p q =
            ap (λ (b : Bool). cond b (z ∷ put_in lt y (put_in stays x zs)) (y ∷ z ∷ put_in stays x zs)) q
            ∙ sym (ap (λ (b : Bool). cond (not b) (y ∷ put_in stays x (z ∷ zs)) (x ∷ y ∷ z ∷ zs)) (o.chain x z y p q)
            ∙ ap (λ (b : Bool). y ∷ cond (not b) (z ∷ put_in stays x zs) (x ∷ z ∷ zs)) p)
        by same true true p q =
            ap (λ (b : Bool). cond b (x ∷ put_in lt y (z ∷ zs)) (y ∷ x ∷ z ∷ zs)) (less p q)
            ∙ ap (λ (b : Bool). x ∷ cond b (z ∷ put_in lt y zs) (y ∷ z ∷ zs)) q
            ∙ sym (ap (λ (b : Bool). cond (not b) (z ∷ put_in stays x (put_in lt y zs)) (x ∷ z ∷ put_in lt y zs)) p)
        by same true false p q =
            ap (λ (b : Bool). cond (lt x y) (x ∷ cond b (z ∷ put_in lt y zs) (y ∷ z ∷ zs)) (y ∷ x ∷ z ∷ zs)) q
            ∙ swapped (lt x y)
            ∙ sym (ap (λ (b : Bool). cond (not (lt x y)) (y ∷ cond (not b) (z ∷ put_in stays x zs) (x ∷ z ∷ zs)) (x ∷ y ∷ z ∷ zs)) p)

    -- a list with one more behind it is sorted by putting that one in behind those that it ties with
    sorted-behind : (xs : List X) (x : X) → sorted_by lt (xs ++ x ∷ []) ≡ put_in stays x (sorted_by lt xs)
    sorted-behind [] x = refl
    sorted-behind (y ∷ ys) x = ap (put_in lt y) (sorted-behind ys x) ∙ commute x y (sorted_by lt ys)

    -- none of the others stays, where the first doesn't
    none-stays : (x y : X) (ys : List X) → Climbs lt (y ∷ ys) → lt x y ≡ true → filter (λ z. stays z x) ys ≡ []
    none-stays x y [] up h = refl
    none-stays x y (z ∷ zs) up h =
        let more : lt x z ≡ true = by (lt x z) refl in
        ap (λ (b : Bool). cond (not b) (z ∷ filter (λ z. stays z x) zs) (filter (λ z. stays z x) zs)) more ∙ none-stays x z zs up.1 more
      where
        by : (s : Bool) → lt x z ≡ s → s ≡ true
        by true r = refl
        by false r = absurd (true≢false (sym h ∙ o.chain x z y r up.0))

    -- where as many stay before it as are looked at, one more is none of these
    stays-out : (x : X) (n : ℕ) (ys : List X) → Climbs lt ys → n ≤ length (filter (λ y. stays y x) ys) → take n (put_in stays x ys) ≡ take n ys
    stays-out x zero ys up h = refl
    stays-out x (suc n) [] up h = absurd (omega (arith, h))
    stays-out x (suc n) (y ∷ ys) up h = by (stays-out x n ys (climbs-rest lt y ys up)) (lt x y) refl
      where
        by : (n ≤ length (filter (λ z. stays z x) ys) → take n (put_in stays x ys) ≡ take n ys) → (s : Bool) → lt x y ≡ s → take (suc n) (put_in stays x (y ∷ ys)) ≡ take (suc n) (y ∷ ys)
        by rest false p =
            let one : length (filter (λ z. stays z x) (y ∷ ys)) ≡ suc (length (filter (λ z. stays z x) ys)) = ap (λ (b : Bool). length (cond (not b) (y ∷ filter (λ z. stays z x) ys) (filter (λ z. stays z x) ys))) p in
            ap (λ (b : Bool). take (suc n) (cond (not b) (y ∷ put_in stays x ys) (x ∷ y ∷ ys))) p
            ∙ ap (λ zs. y ∷ zs) (rest (omega (arith, h, one)))
        by rest true p =
            let none : length (filter (λ z. stays z x) (y ∷ ys)) ≡ 0 = ap (λ (b : Bool). length (cond (not b) (y ∷ filter (λ z. stays z x) ys) (filter (λ z. stays z x) ys))) p ∙ ap length (none-stays x y ys up p) in
            absurd (omega (arith, h, none))

    abbrev head-or : X → List X → X
    head-or last [] = last
    head-or last (y ∷ ys) = y

    -- where one more isn't less than the last, all stay before it
    all-stay : (x last : X) (ys : List X) → Climbs lt (ys ++ last ∷ []) → lt x last ≡ false → (lt x (head-or last ys) ≡ false) × Every (λ z. stays z x) (ys ++ last ∷ [])
    all-stay x last [] up h = (h, (ap not h, tt))
    all-stay x last (y ∷ []) up h =
        let here = o.chain x last y h up.0 in
        (here, (ap not here, (ap not h, tt)))
    all-stay x last (y ∷ z ∷ ys) up h =
        let rest = all-stay x last (z ∷ ys) up.1 h in
        let here = o.chain x z y rest.0 up.0 in
        (here, (ap not here, rest.1))

    -- one more that isn't less than the last of as many as are looked at is none of the first
    pub passed-over : (best more : List X) (x last : X) (n : ℕ) → Climbs lt best → Some last ≡ slice_get best (length best - 1) → n ≤ length best → lt x last ≡ false
        → take n (sorted_by lt ((best ++ more) ++ x ∷ [])) ≡ take n (sorted_by lt (best ++ more))
    passed-over best more x last n up is within more-or-same =
        let p : X → Bool = λ z. stays z x in
        let cut = parted best last is in
        let all : Every p best = subst (Every p) (sym cut.1) (all-stay x last cut.0 (subst (Climbs lt) cut.1 up) more-or-same).1 in
        let long : length (filter p (sorted_by lt (best ++ more))) ≡ length (best ++ filter p more) =
        sorted-count p (best ++ more) ∙ ap length (filter-append p best more ∙ ap (λ zs. zs ++ filter p more) (every-kept p best all)) in
        let sum = length-append best (filter p more) in
        ap (take n) (sorted-behind (best ++ more) x)
        ∙ stays-out x n (sorted_by lt (best ++ more)) (sorted-climbs lt o (best ++ more)) (omega (arith, within, long, sum))

    -- where lists have the same first ones, they have them with one more behind each
    pub grown-alike : (n : ℕ) (x : X) (xs ys : List X) → take n (sorted_by lt xs) ≡ take n (sorted_by lt ys) → take n (sorted_by lt (xs ++ x ∷ [])) ≡ take n (sorted_by lt (ys ++ x ∷ []))
    grown-alike n x xs ys same =
        ap (take n) (sorted-behind xs x) ∙ sym (put-taken stays n x (sorted_by lt xs))
        ∙ ap (λ zs. take n (put_in stays x zs)) same
        ∙ put-taken stays n x (sorted_by lt ys) ∙ sym (ap (take n) (sorted-behind ys x))

    -- the first ones are their own first ones
    pub gathered-alike : (n : ℕ) (xs : List X) → take n (sorted_by lt (take n (sorted_by lt xs) ++ [])) ≡ take n (sorted_by lt xs)
    gathered-alike n xs =
        ap (λ zs. take n (sorted_by lt zs)) (append-nil (take n (sorted_by lt xs))) ∙ ap (take n) (taken-sorted lt o n xs) ∙ take-take n (sorted_by lt xs)
