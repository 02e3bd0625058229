-- Numbers of two lists, one before the other and the other way round.
use Rattle.std.proofs.Common.{◌≡◌, ℕ, ◌==◌, ◌||◌, Bool, false, List, [], ◌∷◌, ◌++◌, refl, ap₂, arith, inl, inr}
use Rattle.std.proofs.lemmas.Bool.Decides.{nat_tests}
use Rattle.std.specs.Prelude.{Contains}
use Rattle.std.specs.List.{list_any}
use Rattle.std.proofs.lemmas.List.Elements.{Contains-append_cases, Contains-append_left, Contains-append_right}
use Rattle.entry_model.specs.Fits.{IsDistinct}
use Rattle.thread_laws.proofs.Agreed.{or_false}

number_turned : (a b : ℕ) → (a == b) ≡ false → (b == a) ≡ false
number_turned a b differ = grind (arith, nat_tests, differ)

any-append : {X : Type 0} (test : X → Bool) (xs ys : List X) → list_any test xs ≡ false → list_any test ys ≡ false → list_any test (xs ++ ys) ≡ false
any-append test [] ys none other = other
any-append test (x ∷ xs) ys none other =
    let both = or_false (test x) (list_any test xs) none in
    ap₂ (λ (a b : Bool). a || b) both.0 (any-append test xs ys both.1 other)

any_left : {X : Type 0} (test : X → Bool) (xs ys : List X) → list_any test (xs ++ ys) ≡ false → list_any test xs ≡ false
any_left test [] ys none = refl
any_left test (x ∷ xs) ys none =
    let both = or_false (test x) (list_any test (xs ++ ys)) none in
    ap₂ (λ (a b : Bool). a || b) both.0 (any_left test xs ys both.1)

any_right : {X : Type 0} (test : X → Bool) (xs ys : List X) → list_any test (xs ++ ys) ≡ false → list_any test ys ≡ false
any_right test [] ys none = none
any_right test (x ∷ xs) ys none = any_right test xs ys ((or_false (test x) (list_any test (xs ++ ys)) none).1)

-- a number that is none of these stands among them
put_between : (x : ℕ) (xs ys : List ℕ) → list_any (λ (y : ℕ). y == x) (ys ++ xs) ≡ false → IsDistinct ◌==◌ (ys ++ xs) → IsDistinct ◌==◌ (ys ++ x ∷ xs)
put_between x xs [] none distinct = (none, distinct)
put_between x xs (y ∷ ys) none distinct =
    let both = or_false (y == x) (list_any (λ (z : ℕ). z == x) (ys ++ xs)) none in
    let front = any_left (λ (z : ℕ). z == y) ys xs distinct.0 in
    let back = any_right (λ (z : ℕ). z == y) ys xs distinct.0 in
    let here : list_any (λ (z : ℕ). z == y) (x ∷ xs) ≡ false = ap₂ (λ (a b : Bool). a || b) (number_turned y x both.0) back in (
      any-append (λ (z : ℕ). z == y) ys (x ∷ xs) front here,
      put_between x xs ys both.1 distinct.1,
    )

pub distinct_turned : (xs ys : List ℕ) → IsDistinct ◌==◌ (xs ++ ys) → IsDistinct ◌==◌ (ys ++ xs)
distinct_turned [] [] distinct = distinct
distinct_turned [] (y ∷ ys) distinct =
    (any-append (λ (z : ℕ). z == y) ys [] distinct.0 refl, distinct_turned [] ys distinct.1)
distinct_turned (x ∷ xs) ys distinct =
    let front = any_left (λ (z : ℕ). z == x) xs ys distinct.0 in
    let back = any_right (λ (z : ℕ). z == x) xs ys distinct.0 in
    put_between x xs ys (any-append (λ (z : ℕ). z == x) ys xs back front) (distinct_turned xs ys distinct.1)

pub contains_turned : {X : Type 0} (xs ys : List X) (x : X) → Contains (xs ++ ys) x → Contains (ys ++ xs) x
contains_turned xs ys x at = elim (Contains-append_cases xs ys x at) [ inl left ↦ Contains-append_right ys xs x left | inr right ↦ Contains-append_left ys xs x right ]
