-- The firsts of those with equal keys, one member after another.
use Rattle.std.proofs.Common.{◌≡◌, refl, sym, ap, ap₂, ◌∙◌, Bool, true, false, cond, not, ◌&&◌, ◌||◌, true≢false, append-nil, List, [], ◌∷◌, ◌++◌, filter, is_eq}
use Rattle.std.specs.List.{list_any}
use Rattle.std.specs.Cmp.{Equal-is, first_so, second_so}
use Rattle.std.proofs.lemmas.List.Elements.{filter-append}
use Rattle.osq_value.specs.declared.value.Value.{Value}
use Rattle.osq_value.specs.Order.{order_of}
use Rattle.osq_value.proofs.OrderLaws.{equal_of-order, order_of-itself}
use Rattle.sql_meaning.specs.Firsts.{same_values, firsts_by}

same_value-exact : (a b : Value) → is_eq (order_of a b) ≡ true → a ≡ b
same_value-exact a b h = let e = Equal-is (order_of a b) in equal_of-order a b (e.0 h)

same_value-itself : (a : Value) → is_eq (order_of a a) ≡ true
same_value-itself a = ap is_eq (order_of-itself a)

-- lists are the same just where they are equal
pub same_values-exact : (lefts rights : List Value) → same_values lefts rights ≡ true → lefts ≡ rights
same_values-exact [] [] h = refl
same_values-exact [] (b ∷ vs) h = absurd (true≢false (sym h))
same_values-exact (a ∷ us) [] h = absurd (true≢false (sym h))
same_values-exact (a ∷ us) (b ∷ vs) h =
    ap₂ (λ (v : Value) (rest : List Value). v ∷ rest) (same_value-exact a b (first_so (is_eq (order_of a b)) (same_values us vs) h))
    (same_values-exact us vs (second_so (is_eq (order_of a b)) (same_values us vs) h))

pub same_values-itself : (values : List Value) → same_values values values ≡ true
same_values-itself [] = refl
same_values-itself (a ∷ us) = λ i. same_value-itself a i && same_values-itself us i

pub same_values-turned : (lefts rights : List Value) → same_values lefts rights ≡ same_values rights lefts
same_values-turned lefts rights = by (same_values lefts rights) (same_values rights lefts) refl refl
  where
    by : (s t : Bool) → same_values lefts rights ≡ s → same_values rights lefts ≡ t → s ≡ t
    by true true p q = refl
    by false false p q = refl
    by true false p q = sym (same_values-itself lefts) ∙ ap (λ (v : List Value). same_values v lefts) (same_values-exact lefts rights p) ∙ q
    by false true p q = sym p ∙ ap (λ (v : List Value). same_values v rights) (sym (same_values-exact rights lefts q)) ∙ same_values-itself rights

module _ {X : Type 0} (key : X → List Value) where
  abbrev pub has_key : List Value → X → Bool
  has_key k x = same_values (key x) k

  -- has another key than y
  abbrev pub differs : X → X → Bool
  differs y z = not (same_values (key y) (key z))

  any_step : (k : List Value) (y : X) → same_values (key y) k ≡ false → (x : X) (found : Bool) (rest : List X) → list_any (has_key k) rest ≡ found
      → (s : Bool) → same_values (key y) (key x) ≡ s → list_any (has_key k) (cond (not s) (x ∷ rest) rest) ≡ (same_values (key x) k || found)
  any_step k y other x found rest h true p = h ∙ (λ i. (sym other ∙ ap (λ (v : List Value). same_values v k) (same_values-exact (key y) (key x) p)) i || found)
  any_step k y other x found rest h false p = λ i. same_values (key x) k || h i

  -- y has another key than k, so leaving out those with y's key loses none with k
  pub any_behind : (k : List Value) (y : X) → same_values (key y) k ≡ false → (xs : List X) → list_any (has_key k) (filter (differs y) xs) ≡ list_any (has_key k) xs
  any_behind k y other [] = refl
  any_behind k y other (x ∷ xs) =
      any_step k y other x (list_any (has_key k) xs) (filter (differs y) xs) (any_behind k y other xs) (same_values (key y) (key x)) refl

  first_step : (k : List Value) (x : X) (found : Bool) (rest : List X) → list_any (has_key k) rest ≡ found
      → (s : Bool) → same_values (key x) k ≡ s → (s || list_any (has_key k) (filter (differs x) rest)) ≡ (s || found)
  first_step k x found rest h true p = refl
  first_step k x found rest h false p = any_behind k x p rest ∙ h

  -- a key stands among the firsts just where it stands among all
  pub any_firsts : (k : List Value) (xs : List X) → list_any (has_key k) (firsts_by key xs) ≡ list_any (has_key k) xs
  any_firsts k [] = refl
  any_firsts k (x ∷ xs) = first_step k x (list_any (has_key k) xs) (firsts_by key xs) (any_firsts k xs) (same_values (key x) k) refl

  filter_push : (y x : X) (s : Bool) → same_values (key y) (key x) ≡ s → (xs : List X) → filter (differs y) (xs ++ x ∷ []) ≡ filter (differs y) xs ++ cond (not s) (x ∷ []) []
  filter_push y x s p xs = filter-append (differs y) xs (x ∷ []) ∙ ap (λ (t : Bool). filter (differs y) xs ++ cond (not t) (x ∷ []) []) p

  push_step : (y x : X) (firsts : List X) (s : Bool) → same_values (key y) (key x) ≡ s → (b : Bool) → list_any (has_key (key x)) firsts ≡ b
      → y ∷ filter (differs y) (cond b firsts (firsts ++ x ∷ []))
      ≡ cond (s || list_any (has_key (key x)) (filter (differs y) firsts)) (y ∷ filter (differs y) firsts) (y ∷ (filter (differs y) firsts ++ x ∷ []))
  push_step y x firsts true p true q = refl
  push_step y x firsts true p false q = ap (λ (zs : List X). y ∷ zs) (filter_push y x true p firsts ∙ append-nil (filter (differs y) firsts))
  push_step y x firsts false p true q =
      ap (λ (t : Bool). cond t (y ∷ filter (differs y) firsts) (y ∷ (filter (differs y) firsts ++ x ∷ []))) (sym (any_behind (key x) y p firsts ∙ q))
  push_step y x firsts false p false q =
      ap (λ (zs : List X). y ∷ zs) (filter_push y x false p firsts)
      ∙ ap (λ (t : Bool). cond t (y ∷ filter (differs y) firsts) (y ∷ (filter (differs y) firsts ++ x ∷ []))) (sym (any_behind (key x) y p firsts ∙ q))

  -- a further member
  pub firsts_by-push : (xs : List X) (x : X) → firsts_by key (xs ++ x ∷ []) ≡ cond (list_any (has_key (key x)) (firsts_by key xs)) (firsts_by key xs) (firsts_by key xs ++ x ∷ [])
  firsts_by-push [] x = refl
  firsts_by-push (y ∷ ys) x =
      ap (λ (zs : List X). y ∷ filter (differs y) zs) (firsts_by-push ys x)
      ∙ push_step y x (firsts_by key ys) (same_values (key y) (key x)) refl (list_any (has_key (key x)) (firsts_by key ys)) refl
