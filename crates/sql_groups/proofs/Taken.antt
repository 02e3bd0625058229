-- The first of a sorted list, kept while the list grows.
use Rattle.std.proofs.Common.{◌≡◌, ℕ, zero, suc, refl, sym, ap, Bool, true, false, cond, List, [], ◌∷◌, take}
use Rattle.sql_meaning.specs.Order.{put_in}

pub take-take : {X : Type 0} (n : ℕ) (xs : List X) → take n (take n xs) ≡ take n xs
take-take zero xs = refl
take-take (suc n) [] = refl
take-take (suc n) (x ∷ xs) = ap (λ ys. x ∷ ys) (take-take n xs)

take-less : {X : Type 0} (n : ℕ) (xs : List X) → take n (take (suc n) xs) ≡ take n xs
take-less zero xs = refl
take-less (suc n) [] = refl
take-less (suc n) (x ∷ xs) = ap (λ ys. x ∷ ys) (take-less n xs)

take-front : {X : Type 0} (n : ℕ) (x : X) (xs : List X) → take n (x ∷ xs) ≡ take n (x ∷ take n xs)
take-front zero x xs = refl
take-front (suc n) x xs = ap (λ ys. x ∷ ys) (sym (take-less n xs))

module _ {X : Type 0} (lt : X → X → Bool) where
  -- what lies behind the first n is of no account when one more is put in
  pub put-taken : (n : ℕ) (x : X) (ys : List X) → take n (put_in lt x (take n ys)) ≡ take n (put_in lt x ys)
  put-taken zero x ys = refl
  put-taken (suc n) x [] = refl
  put-taken (suc n) x (y ∷ ys) = by (put-taken n x ys) (lt y x)
    where
      by : take n (put_in lt x (take n ys)) ≡ take n (put_in lt x ys) → (s : Bool) → take (suc n) (cond s (y ∷ put_in lt x (take n ys)) (x ∷ y ∷ take n ys)) ≡ take (suc n) (cond s (y ∷ put_in lt x ys) (x ∷ y ∷ ys))
      by rest true = ap (λ zs. y ∷ zs) rest
      by rest false = ap (λ zs. x ∷ zs) (sym (take-front n y ys))
