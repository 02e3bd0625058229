-- Items at places of lists.
use Rattle.std.proofs.Common.{◌≡◌, ℕ, zero, suc, ◌+◌, ◌<◌, ◌≤◌, List, [], ◌∷◌, ◌++◌, length, take, drop, refl, sym, ap, ◌∙◌, arith, Some, None}
use Rattle.std.specs.Prelude.{slice_get}
use Rattle.std.proofs.Math.Seq.{take-suc}
use Rattle.std.proofs.lemmas.Option.{get_or_from_slice_get, none-some, slice_get_within}

pub get_take : {X : Type 0} (xs : List X) (n m : ℕ) → n < m → slice_get (take m xs) n ≡ slice_get xs n
get_take [] n zero within = refl
get_take [] n (suc m) within = refl
get_take (x ∷ xs) n zero within = absurd (omega arith)
get_take (x ∷ xs) zero (suc m) within = refl
get_take (x ∷ xs) (suc n) (suc m) within = get_take xs n m (omega arith)

pub get_drop : {X : Type 0} (n : ℕ) (xs : List X) (place : ℕ) → slice_get (drop n xs) place ≡ slice_get xs (n + place)
get_drop zero xs place = let e : 0 + place ≡ place = omega arith in ap (slice_get xs) (sym e)
get_drop (suc n) [] place = refl
get_drop (suc n) (x ∷ xs) place = let e : suc n + place ≡ suc (n + place) = omega arith in get_drop n xs place ∙ ap (slice_get (x ∷ xs)) (sym e)

-- what stands at a place stays there when items are added
pub get_stays : {X : Type 0} (xs ys : List X) (place : ℕ) (x : X) → slice_get xs place ≡ Some x → slice_get (xs ++ ys) place ≡ Some x
get_stays [] ys place x at = absurd (cc)
get_stays (x' ∷ xs) ys zero x at = at
get_stays (x' ∷ xs) ys (suc place) x at = get_stays xs ys place x at

-- one more item from the front
pub take_more : {X : Type 0} (xs : List X) (place : ℕ) (x : X) → slice_get xs place ≡ Some x → take (suc place) xs ≡ take place xs ++ x ∷ []
take_more xs place x at =
    take-suc xs place x (slice_get_within xs place x at) ∙ ap (λ y. take place xs ++ y ∷ []) (get_or_from_slice_get xs place x x at)

-- nothing stands behind the last place
pub none_past : {X : Type 0} (xs : List X) (place : ℕ) → slice_get xs place ≡ None → length xs ≤ place
none_past [] place none = omega arith
none_past (x ∷ xs) zero none = absurd (none-some x (sym none))
none_past (x ∷ xs) (suc place) none = let rest = none_past xs place none in omega (arith, rest)
