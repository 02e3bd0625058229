-- Lists in which none is less than the one before it.
use Rattle.std.proofs.Common.{◌≡◌, ℕ, zero, suc, refl, ap, ◌∙◌, Bool, true, false, cond, List, [], ◌∷◌, take}
use Rattle.std.specs.Cmp.{IsStrictWeakOrder}
use Rattle.sql_meaning.specs.Order.{put_in, sorted_by}
use Rattle.sql_groups.specs.Leading.{Climbs}

module _ {X : Type 0} (lt : X → X → Bool) where
  pub climbs-rest : (x : X) (ys : List X) → Climbs lt (x ∷ ys) → Climbs lt ys
  climbs-rest x [] up = tt
  climbs-rest x (y ∷ ys) up = up.1

  -- a list that climbs is sorted
  pub climbs-sorted : (xs : List X) → Climbs lt xs → sorted_by lt xs ≡ xs
  climbs-sorted [] up = refl
  climbs-sorted (x ∷ []) up = refl
  climbs-sorted (x ∷ y ∷ ys) up =
      ap (put_in lt x) (climbs-sorted (y ∷ ys) up.1) ∙ ap (λ (s : Bool). cond s (y ∷ put_in lt x ys) (x ∷ y ∷ ys)) up.0

  pub climbs-take : (n : ℕ) (xs : List X) → Climbs lt xs → Climbs lt (take n xs)
  climbs-take zero xs up = tt
  climbs-take (suc n) [] up = tt
  climbs-take (suc n) (x ∷ []) up = by n
    where
      by : (n : ℕ) → Climbs lt (x ∷ take n [])
      by zero = tt
      by (suc n) = tt
  climbs-take (suc zero) (x ∷ y ∷ ys) up = tt
  climbs-take (suc (suc n)) (x ∷ y ∷ ys) up = (up.0, climbs-take (suc n) (y ∷ ys) up.1)

  module _ (o : IsStrictWeakOrder lt) where
    -- put in behind one that isn't less
    climbs-behind : (w x : X) (ys : List X) → lt x w ≡ false → Climbs lt (w ∷ ys) → Climbs lt (put_in lt x ys) → Climbs lt (w ∷ put_in lt x ys)
    climbs-behind w x [] p up rest = (p, tt)
    climbs-behind w x (y ∷ ys) p up rest = by (lt y x) rest
      where
        by : (s : Bool) → Climbs lt (cond s (y ∷ put_in lt x ys) (x ∷ y ∷ ys)) → Climbs lt (w ∷ cond s (y ∷ put_in lt x ys) (x ∷ y ∷ ys))
        by true more = (up.0, more)
        by false more = (p, more)

    climbs-put : (x : X) (ys : List X) → Climbs lt ys → Climbs lt (put_in lt x ys)
    climbs-put x [] up = tt
    climbs-put x (y ∷ ys) up = by (climbs-put x ys (climbs-rest y ys up)) (lt y x) refl
      where
        by : Climbs lt (put_in lt x ys) → (s : Bool) → lt y x ≡ s → Climbs lt (cond s (y ∷ put_in lt x ys) (x ∷ y ∷ ys))
        by rest true p = climbs-behind y x ys (o.one_way y x p) up rest
        by rest false p = (p, up)

    pub sorted-climbs : (xs : List X) → Climbs lt (sorted_by lt xs)
    sorted-climbs [] = tt
    sorted-climbs (x ∷ xs) = climbs-put x (sorted_by lt xs) (sorted-climbs xs)

    -- the first of a sorted list are sorted
    pub taken-sorted : (n : ℕ) (xs : List X) → sorted_by lt (take n (sorted_by lt xs)) ≡ take n (sorted_by lt xs)
    taken-sorted n xs = climbs-sorted (take n (sorted_by lt xs)) (climbs-take n (sorted_by lt xs) (sorted-climbs xs))
