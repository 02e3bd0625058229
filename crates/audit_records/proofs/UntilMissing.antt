-- The values of a function at a place and the places behind it, step by step.
use Rattle.std.proofs.Common.{◌≡◌, ℕ, ◌+◌, ◌-◌, ◌<◌, ◌≤◌, suc, List, [], ◌∷◌, ◌++◌, arith, ap, sym, ◌∙◌, append_assoc, Option, Some, None}
use Rattle.std.proofs.lemmas.List.{append-nil}
use Rattle.std.specs.List.{concat}
use Rattle.std.specs.Option.{option_map_or}
use Rattle.audit_records.specs.Arguments.{until_missing}

step : {X : Type 0} (count place : ℕ) (f : ℕ → Option X) (o : Option X) → place < count → f place ≡ o → until_missing (count - place) place f ≡ option_map_or (λ x. x ∷ until_missing (count - (place + 1)) (place + 1) f) o []
step count place f o within is =
    let left : count - place ≡ suc (count - (place + 1)) = omega arith in
    ap (λ n. until_missing n place f) left ∙ ap (λ p. option_map_or (λ x. x ∷ until_missing (count - (place + 1)) (place + 1) f) p []) is

pub until_missing-more : {X : Type 0} (count place : ℕ) (f : ℕ → Option X) (x : X) → place < count → f place ≡ Some x → until_missing (count - place) place f ≡ x ∷ until_missing (count - (place + 1)) (place + 1) f
until_missing-more count place f x within is = step count place f (Some x) within is

pub until_missing-stop : {X : Type 0} (count place : ℕ) (f : ℕ → Option X) → place < count → f place ≡ None → until_missing (count - place) place f ≡ []
until_missing-stop count place f within is = step count place f None within is

pub until_missing-all : {X : Type 0} (count place : ℕ) (f : ℕ → Option X) → count ≤ place → until_missing (count - place) place f ≡ []
until_missing-all count place f past = let none : count - place ≡ 0 = omega arith in ap (λ n. until_missing n place f) none

-- the texts that are left, behind those that were added
pub added-stop : (count place : ℕ) (f : ℕ → Option (List ℕ)) (text whole : List ℕ) → place < count → f place ≡ None → text ++ concat (until_missing (count - place) place f) ≡ whole → text ≡ whole
added-stop count place f text whole within is before =
    sym (append-nil text) ∙ ap (λ xs. text ++ concat xs) (sym (until_missing-stop count place f within is)) ∙ before

pub added-all : (count place : ℕ) (f : ℕ → Option (List ℕ)) (text whole : List ℕ) → count ≤ place → text ++ concat (until_missing (count - place) place f) ≡ whole → text ≡ whole
added-all count place f text whole past before =
    sym (append-nil text) ∙ ap (λ xs. text ++ concat xs) (sym (until_missing-all count place f past)) ∙ before

pub added-more : (count place : ℕ) (f : ℕ → Option (List ℕ)) (text next x whole : List ℕ) → place < count → f place ≡ Some x → next ≡ text ++ x → text ++ concat (until_missing (count - place) place f) ≡ whole → next ++ concat (until_missing (count - (place + 1)) (place + 1) f) ≡ whole
added-more count place f text next x whole within is adds before =
    ap (λ t. t ++ concat (until_missing (count - (place + 1)) (place + 1) f)) adds
    ∙ append_assoc text x (concat (until_missing (count - (place + 1)) (place + 1) f))
    ∙ ap (λ xs. text ++ concat xs) (sym (until_missing-more count place f x within is)) ∙ before
