-- The first field of each key, as a walk over a line finds them.
use Rattle.std.proofs.Common.{◌≡◌, ℕ, Bool, true, false, cond, List, [], ◌∷◌, map, refl, ap, ◌∙◌, Option, Some, None, find, bytes_eq}
use Rattle.std.specs.Option.{option_or}
use Rattle.audit_records.specs.declared.line.Field.{Field}
use Rattle.audit_records.specs.CallFields.{call_keys, each_or, placed}
use Rattle.audit_records.specs.Indexes.{with_key}

abbrev first_with : List Field → List ℕ → Option Field
first_with fields key = find (λ (field : Field). bytes_eq field.key key) fields

-- of each key the first of these fields
abbrev pub firsts : List Field → List (Option Field)
firsts fields = map (first_with fields) call_keys

or-behind : (one : Option Field) (key : List ℕ) (field : Field) (fields : List Field) → option_or (option_or one (with_key key field)) (first_with fields key) ≡ option_or one (first_with (field ∷ fields) key)
or-behind (Some one) key field fields = refl
or-behind None key field fields = by_test (bytes_eq field.key key) where
  by_test : (t : Bool) → option_or (cond t (Some field) None) (first_with fields key) ≡ cond t (Some field) (first_with fields key)
  by_test true = refl
  by_test false = refl

each-behind : (ones : List (Option Field)) (keys : List (List ℕ)) (field : Field) (fields : List Field) → each_or (each_or ones (map (λ key. with_key key field) keys)) (map (first_with fields) keys) ≡ each_or ones (map (first_with (field ∷ fields)) keys)
each-behind [] keys field fields = refl
each-behind (one ∷ ones) [] field fields = refl
each-behind (one ∷ ones) (key ∷ keys) field fields =
    ap (λ o. o ∷ each_or (each_or ones (map (λ key. with_key key field) keys)) (map (first_with fields) keys)) (or-behind one key field fields)
    ∙ ap (λ os. option_or one (first_with (field ∷ fields) key) ∷ os) (each-behind ones keys field fields)

-- a step of the walk
pub walk-step : (ones : List (Option Field)) (field : Field) (fields : List Field) → each_or (each_or ones (placed field)) (firsts fields) ≡ each_or ones (firsts (field ∷ fields))
walk-step ones field fields = each-behind ones call_keys field fields

or-none : (one : Option Field) → option_or one None ≡ one
or-none None = refl
or-none (Some one) = refl

-- nothing is added where none is there
each-none : (ones : List (Option Field)) (keys : List (List ℕ)) → each_or ones (map (λ _. None) keys) ≡ ones
each-none [] keys = refl
each-none (one ∷ ones) [] = refl
each-none (one ∷ ones) (key ∷ keys) =
    ap (λ o. o ∷ each_or ones (map (λ _. None) keys)) (or-none one) ∙ ap (λ os. one ∷ os) (each-none ones keys)

pub walk-end : (ones : List (Option Field)) → each_or ones (firsts []) ≡ ones
walk-end ones = each-none ones call_keys
