-- What a set holds, by what its members stand for.
use Rattle.std.proofs.Common.{◌≡◌, ◌+◌, ℕ, Some, None, refl, sym, ap, ◌∙◌, Bool, true, false, cond, not, ◌||◌, List, [], ◌∷◌, ◌++◌, map, Bor}
use Rattle.std.specs.Prelude.{if◌then◌else◌}
use Rattle.std.specs.List.{list_any, position_or_len}
use Rattle.std.specs.Cmp.Lexicographic.{pointwise}
use Rattle.std.proofs.lemmas.List.{map-append}
use Rattle.indexmap.specs.IndexSet.{insert_key}
use Rattle.osq_value.specs.declared.value.Value.{Value}
use Rattle.osq_value.specs.contracts.value.ValuePartialEq.TheImpl as equality
use Rattle.sql_meaning.specs.Firsts.{same_values}
use Rattle.sql_meaning.specs.declared.worth.Worth.{Worth}
use Rattle.sql_meaning.specs.Worths.{worth_of}
use Rattle.sql_meaning.proofs.Equality.{worths-are}
use Rattle.sql_groups.specs.declared.keys.Key.{Key}
use Rattle.sql_groups.specs.Different.{equal}
use Rattle.sql_groups.specs.Grouping.{place_of}
use Rattle.sql_groups.specs.Keys.{key_list, key_worths}

not-of : (fresh b : Bool) → fresh ≡ not b → (is : Bool) → fresh ≡ is → b ≡ not is
not-of fresh true told true at = sym at ∙ told
not-of fresh true told false at = refl
not-of fresh false told true at = refl
not-of fresh false told false at = sym at ∙ told

-- members are equal where what they stand for is
module _ {X F : Type 0} (shown : X → F) (same : X → X → Bool) (alike : F → F → Bool) (is : (x y : X) → same x y ≡ alike (shown x) (shown y)) where
  any-shown : (x : X) (xs : List X) → list_any (same x) xs ≡ list_any (alike (shown x)) (map shown xs)
  any-shown x [] = refl
  any-shown x (y ∷ ys) = λ i. is x y i || any-shown x ys i

  pub placed-shown : (x : X) (xs : List X) → position_or_len (same x) xs ≡ position_or_len (alike (shown x)) (map shown xs)
  placed-shown x [] = refl
  placed-shown x (y ∷ ys) = λ i. cond (not (is x y i)) (1 + placed-shown x ys i) 0

  inserted-if : (xs : List X) (x : X) (b : Bool) → map shown (if b then xs else xs ++ x ∷ []) ≡ (if b then map shown xs else map shown xs ++ shown x ∷ [])
  inserted-if xs x true = refl
  inserted-if xs x false = map-append shown xs (x ∷ [])

  -- what the members stand for after one more
  pub inserted-shown : (old new : List X) (x : X) → new ≡ insert_key same old x → map shown new ≡ insert_key alike (map shown old) (shown x)
  inserted-shown old new x told =
      ap (map shown) told ∙ inserted-if old x (list_any (same x) old)
      ∙ ap (λ (b : Bool). if b then map shown old else map shown old ++ shown x ∷ []) (any-shown x old)

  -- what the test of a new member says of them
  pub fresh-shown : (xs : List X) (x : X) (fresh new : Bool) → fresh ≡ not (list_any (same x) xs) → fresh ≡ new → list_any (alike (shown x)) (map shown xs) ≡ not new
  fresh-shown xs x fresh new told at = sym (any-shown x xs) ∙ not-of fresh (list_any (same x) xs) told new at

  turned : (b : Bool) (at : ℕ) → (if not b then None else Some at) ≡ (if b then Some at else None)
  turned true at = refl
  turned false at = refl

  -- where a member stands that the set had, by what it stands for
  pub place-shown : (xs : List X) (x : X) (new : Bool) (at : ℕ) → new ≡ not (list_any (same x) xs) → at ≡ position_or_len (same x) xs → (if new then None else Some at) ≡ place_of alike (shown x) (map shown xs)
  place-shown xs x new at told is =
      (λ i. if told i then None else Some (is i))
      ∙ turned (list_any (same x) xs) (position_or_len (same x) xs)
      ∙ (λ i. if any-shown x xs i then Some (placed-shown x xs i) else None)

-- values where they stand
abbrev pub value_in_place : Bor Value → Value
value_in_place value = value.now

abbrev pub same_places : Bor Value → Bor Value → Bool
same_places left right = equal left.now right.now

pub places-are : (x y : Bor Value) → same_places x y ≡ equal (value_in_place x) (value_in_place y)
places-are x y = refl

-- keys, which are equal where their values are
abbrev pub same_keys : Key Worth → Key Worth → Bool
same_keys left right = pointwise (λ (l r : Worth). equality.eq-value.it (worth_of l) (worth_of r)) (key_list left) (key_list right)

pub keys-are : (x y : Key Worth) → same_keys x y ≡ same_values (key_worths x) (key_worths y)
keys-are x y = worths-are (key_list x) (key_list y)
