-- Tests over lists whose items are seen through a function.
use Rattle.std.proofs.Common.{◌≡◌, ◌&&◌, ◌||◌, Bool, List, [], ◌∷◌, map, refl, ap}
use Rattle.std.specs.List.{list_all, list_any}

pub list_any-map : {A B : Type 0} (see : A → B) (test : B → Bool) (xs : List A) → list_any (λ x. test (see x)) xs ≡ list_any test (map see xs)
list_any-map see test [] = refl
list_any-map see test (x ∷ xs) = ap (λ b. test (see x) || b) (list_any-map see test xs)

pub list_all-map : {X Y : Type 0} (f : X → Y) (test : Y → Bool) (xs : List X) → list_all (λ x. test (f x)) xs ≡ list_all test (map f xs)
list_all-map f test [] = refl
list_all-map f test (x ∷ xs) = ap (λ b. test (f x) && b) (list_all-map f test xs)
