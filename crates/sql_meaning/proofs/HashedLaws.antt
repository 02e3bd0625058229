-- What a set of hashed keys holds, one member after another.
use Rattle.std.proofs.Common.{◌≡◌, refl, sym, ap, ◌∙◌, Bool, true, false, cond, ◌||◌, List, [], ◌∷◌, ◌++◌, map}
use Rattle.std.specs.List.{list_any}
use Rattle.std.proofs.lemmas.List.{map-append}
use Rattle.indexmap.specs.IndexSet.{insert_key}
use Rattle.osq_value.specs.declared.value.Value.{Value}
use Rattle.sql_meaning.specs.Firsts.{same_values, firsts_by}
use Rattle.sql_meaning.proofs.FirstsLaws.{firsts_by-push, has_key, same_values-turned}

-- a member stands in the set as what `make` gives of it, and such are equal where the keys are
module _ {X F : Type 0} (equal : F → F → Bool) (key : X → List Value) (make : X → F) (is : (x y : X) → equal (make x) (make y) ≡ same_values (key x) (key y)) where
  pub any_made : (x : X) (xs : List X) → list_any (equal (make x)) (map make xs) ≡ list_any (has_key key (key x)) xs
  any_made x [] = refl
  any_made x (y ∷ ys) = λ i. (is x y ∙ same_values-turned (key x) (key y)) i || any_made x ys i

  made_if : (x : X) (xs : List X) (b : Bool) → cond b (map make xs) (map make xs ++ make x ∷ []) ≡ map make (cond b xs (xs ++ x ∷ []))
  made_if x xs true = refl
  made_if x xs false = sym (map-append make xs (x ∷ []))

  -- a further member
  pub insert_key-made : (xs : List X) (x : X) → insert_key equal (map make (firsts_by key xs)) (make x) ≡ map make (firsts_by key (xs ++ x ∷ []))
  insert_key-made xs x =
      let firsts = firsts_by key xs in
      ap (λ (b : Bool). cond b (map make firsts) (map make firsts ++ make x ∷ [])) (any_made x firsts)
      ∙ made_if x firsts (list_any (has_key key (key x)) firsts)
      ∙ ap (map make) (sym (firsts_by-push key xs x))
