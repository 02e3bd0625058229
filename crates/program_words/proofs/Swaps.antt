-- Lists in which two items that stand side by side change places.
use Rattle.std.proofs.Common.{◌≡◌, ℕ, ◌&&◌, ◌||◌, Bool, true, false, cond, List, [], ◌∷◌, ◌++◌, Some, refl, ap, ◌∙◌, arith, count_by, filter}
use Rattle.std.specs.List.{find, list_all, list_any}
use Rattle.std.proofs.lemmas.List.Sums.{sum_by-append, sum_by-cons}

and-swap : (a b c : Bool) → a && (b && c) ≡ b && (a && c)
and-swap true b c = refl
and-swap false true c = refl
and-swap false false c = refl

or-swap : (a b c : Bool) → a || (b || c) ≡ b || (a || c)
or-swap false b c = refl
or-swap true true c = refl
or-swap true false c = refl

pub list_all-swap : {X : Type 0} (p : X → Bool) (front : List X) (x y : X) (behind : List X) → list_all p (front ++ x ∷ y ∷ behind) ≡ list_all p (front ++ y ∷ x ∷ behind)
list_all-swap p [] x y behind = and-swap (p x) (p y) (list_all p behind)
list_all-swap p (z ∷ zs) x y behind = ap (λ b. p z && b) (list_all-swap p zs x y behind)

pub list_any-swap : {X : Type 0} (p : X → Bool) (front : List X) (x y : X) (behind : List X) → list_any p (front ++ x ∷ y ∷ behind) ≡ list_any p (front ++ y ∷ x ∷ behind)
list_any-swap p [] x y behind = or-swap (p x) (p y) (list_any p behind)
list_any-swap p (z ∷ zs) x y behind = ap (λ b. p z || b) (list_any-swap p zs x y behind)

pub count_by-swap : {X : Type 0} (p : X → Bool) (front : List X) (x y : X) (behind : List X) → count_by p (front ++ x ∷ y ∷ behind) ≡ count_by p (front ++ y ∷ x ∷ behind)
count_by-swap {X} p front x y behind =
    let f : X → ℕ = λ v. cond (p v) 1 0 in
    omega (arith, sum_by-append f front (x ∷ y ∷ behind), sum_by-append f front (y ∷ x ∷ behind), sum_by-cons f x (y ∷ behind), sum_by-cons f y behind, sum_by-cons f y (x ∷ behind), sum_by-cons f x behind)

cond-swap : {A : Type 0} (a b : Bool) (x y rest : A) → a && b ≡ false → cond a x (cond b y rest) ≡ cond b y (cond a x rest)
cond-swap true true x y rest apart = absurd cc
cond-swap true false x y rest apart = refl
cond-swap false b x y rest apart = refl

-- at most one of the two passes
pub find-swap : {X : Type 0} (p : X → Bool) (front : List X) (x y : X) (behind : List X) → p x && p y ≡ false → find p (front ++ x ∷ y ∷ behind) ≡ find p (front ++ y ∷ x ∷ behind)
find-swap p [] x y behind apart = cond-swap (p x) (p y) (Some x) (Some y) (find p behind) apart
find-swap p (z ∷ zs) x y behind apart = ap (λ found. cond (p z) (Some z) found) (find-swap p zs x y behind apart)

kept-swap : {X : Type 0} (a b : Bool) (x y : X) (rest : List X) → a && b ≡ false → cond a (x ∷ cond b (y ∷ rest) rest) (cond b (y ∷ rest) rest) ≡ cond b (y ∷ cond a (x ∷ rest) rest) (cond a (x ∷ rest) rest)
kept-swap true true x y rest apart = absurd cc
kept-swap true false x y rest apart = refl
kept-swap false true x y rest apart = refl
kept-swap false false x y rest apart = refl

pub filter-swap : {X : Type 0} (p : X → Bool) (front : List X) (x y : X) (behind : List X) → p x && p y ≡ false → filter p (front ++ x ∷ y ∷ behind) ≡ filter p (front ++ y ∷ x ∷ behind)
filter-swap p [] x y behind apart = kept-swap (p x) (p y) x y (filter p behind) apart
filter-swap p (z ∷ zs) x y behind apart = ap (λ kept. cond (p z) (z ∷ kept) kept) (filter-swap p zs x y behind apart)

-- two tests that agree
pub list_all-same : {X : Type 0} (p q : X → Bool) → ((x : X) → p x ≡ q x) → (xs : List X) → list_all p xs ≡ list_all q xs
list_all-same p q same [] = refl
list_all-same p q same (x ∷ xs) = ap (λ b. b && list_all p xs) (same x) ∙ ap (λ b. q x && b) (list_all-same p q same xs)
