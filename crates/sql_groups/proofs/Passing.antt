-- Lists of which each passes a test.
use Rattle.std.proofs.Common.{◌≡◌, ℕ, zero, suc, refl, ap, ◌∙◌, Bool, true, false, cond, List, [], ◌∷◌, take, filter}
use Rattle.osq_value.specs.declared.value.Value.{Value}
use Rattle.sql_meaning.specs.Firsts.{firsts_by}
use Rattle.sql_meaning.specs.Order.{put_in, sorted_by}
use Rattle.sql_meaning.proofs.FirstsLaws.{differs}

-- each passes a test
abbrev pub Every : {X : Type 0} → (X → Bool) → List X → Type 0
Every p [] = Unit {0}
Every p (x ∷ xs) = (p x ≡ true) × Every p xs

module _ {X : Type 0} (p : X → Bool) where
  pub every-kept : (xs : List X) → Every p xs → filter p xs ≡ xs
  every-kept [] all = refl
  every-kept (x ∷ xs) all = ap (λ (s : Bool). cond s (x ∷ filter p xs) (filter p xs)) all.0 ∙ ap (λ ys. x ∷ ys) (every-kept xs all.1)

  pub kept-every : (xs : List X) → Every p (filter p xs)
  kept-every [] = tt
  kept-every (x ∷ xs) = by (kept-every xs) (p x) refl
    where
      by : Every p (filter p xs) → (s : Bool) → p x ≡ s → Every p (cond s (x ∷ filter p xs) (filter p xs))
      by rest true h = (h, rest)
      by rest false h = rest

  pub every-take : (n : ℕ) (xs : List X) → Every p xs → Every p (take n xs)
  every-take zero xs all = tt
  every-take (suc n) [] all = tt
  every-take (suc n) (x ∷ xs) all = (all.0, every-take n xs all.1)

  pub every-filter : (q : X → Bool) (xs : List X) → Every p xs → Every p (filter q xs)
  every-filter q [] all = tt
  every-filter q (x ∷ xs) all = by (every-filter q xs all.1) (q x)
    where
      by : Every p (filter q xs) → (s : Bool) → Every p (cond s (x ∷ filter q xs) (filter q xs))
      by rest true = (all.0, rest)
      by rest false = rest

  module _ (lt : X → X → Bool) where
    every-put : (x : X) (ys : List X) → p x ≡ true → Every p ys → Every p (put_in lt x ys)
    every-put x [] h all = (h, tt)
    every-put x (y ∷ ys) h all = by (every-put x ys h all.1) (lt y x)
      where
        by : Every p (put_in lt x ys) → (s : Bool) → Every p (cond s (y ∷ put_in lt x ys) (x ∷ y ∷ ys))
        by rest true = (all.0, rest)
        by rest false = (h, all)

    pub every-sorted : (xs : List X) → Every p xs → Every p (sorted_by lt xs)
    every-sorted [] all = tt
    every-sorted (x ∷ xs) all = every-put x (sorted_by lt xs) all.0 (every-sorted xs all.1)

  module _ (key : X → List Value) where
    pub every-firsts : (xs : List X) → Every p xs → Every p (firsts_by key xs)
    every-firsts [] all = tt
    every-firsts (x ∷ xs) all = (all.0, every-filter (differs key x) (firsts_by key xs) (every-firsts xs all.1))

module _ {X : Type 0} (key : X → List Value) where
  -- each has another key than those behind it
  abbrev Apart : List X → Type 0
  Apart [] = Unit {0}
  Apart (x ∷ xs) = Every (differs key x) xs × Apart xs

  apart-kept : (q : X → Bool) (xs : List X) → Apart xs → Apart (filter q xs)
  apart-kept q [] apart = tt
  apart-kept q (x ∷ xs) apart = by (apart-kept q xs apart.1) (q x)
    where
      by : Apart (filter q xs) → (s : Bool) → Apart (cond s (x ∷ filter q xs) (filter q xs))
      by rest true = (every-filter (differs key x) q xs apart.0, rest)
      by rest false = rest

  apart-firsts : (xs : List X) → Apart (firsts_by key xs)
  apart-firsts [] = tt
  apart-firsts (x ∷ xs) = (kept-every (differs key x) (firsts_by key xs), apart-kept (differs key x) (firsts_by key xs) (apart-firsts xs))

  same : (xs : List X) → Apart xs → firsts_by key xs ≡ xs
  same [] apart = refl
  same (x ∷ xs) apart =
      ap (λ ys. x ∷ filter (differs key x) ys) (same xs apart.1) ∙ ap (λ ys. x ∷ ys) (every-kept (differs key x) xs apart.0)

  -- the firsts are their own firsts
  pub firsts-again : (xs : List X) → firsts_by key (firsts_by key xs) ≡ firsts_by key xs
  firsts-again xs = same (firsts_by key xs) (apart-firsts xs)
