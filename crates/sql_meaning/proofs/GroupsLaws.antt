-- The groups, one member after another.
use Rattle.std.proofs.Common.{◌≡◌, ℕ, ◌<◌, ◌+◌, suc, refl, sym, ap, ap₂, subst, ◌∙◌, Bool, true, false, cond, not, ◌||◌, true≢false, List, [], ◌∷◌, ◌++◌, filter, map, length, get_or, set, append-nil, arith}
use Rattle.std.specs.List.{list_any, position_or_len}
use Rattle.std.proofs.lemmas.List.{length-map, map-append}
use Rattle.std.proofs.lemmas.List.Elements.{filter-append}
use Rattle.osq_value.specs.declared.value.Value.{Value}
use Rattle.sql_meaning.specs.Firsts.{same_values, firsts_by}
use Rattle.sql_meaning.specs.declared.groups.Keyed.{Keyed}
use Rattle.sql_meaning.specs.declared.joined.Joined.{Joined}
use Rattle.sql_meaning.specs.Keyed.{member_of}
use Rattle.sql_meaning.specs.Lent.{values_in}
use Rattle.sql_meaning.specs.Worths.{worths}
use Rattle.sql_meaning.proofs.Mapped.{groups_mapped, maps_twice}
use Rattle.sql_meaning.specs.Groups.{groups_by}
use Rattle.sql_meaning.proofs.FirstsLaws.{same_values-exact, same_values-itself, same_values-turned, any_firsts, differs, firsts_by-push, has_key}

module _ {X : Type 0} (key : X → List Value) where
  -- each key stands once
  abbrev pub Once : List X → Type 0
  Once [] = Unit {0}
  Once (x ∷ xs) = (list_any (has_key key (key x)) xs ≡ false) × Once xs

  left_step : (k : List Value) (x : X) (xs rest : List X) → list_any (has_key key k) rest ≡ false → same_values (key x) k ≡ false → (s : Bool) → list_any (has_key key k) (cond s (x ∷ rest) rest) ≡ false
  left_step k x xs rest h p true = λ i. p i || h i
  left_step k x xs rest h p false = h

  first_no : (a b : Bool) → (a || b) ≡ false → a ≡ false
  first_no true b h = h
  first_no false b h = refl

  second_no : (a b : Bool) → (a || b) ≡ false → b ≡ false
  second_no true b h = absurd (true≢false h)
  second_no false b h = h

  any_left : (k : List Value) (p : X → Bool) (xs : List X) → list_any (has_key key k) xs ≡ false → list_any (has_key key k) (filter p xs) ≡ false
  any_left k p [] h = refl
  any_left k p (x ∷ xs) h =
      left_step k x xs (filter p xs) (any_left k p xs (second_no (has_key key k x) (list_any (has_key key k) xs) h)) (first_no (has_key key k x) (list_any (has_key key k) xs) h) (p x)

  once_if : (x : X) (rest : List X) → list_any (has_key key (key x)) rest ≡ false → Once rest → (s : Bool) → Once (cond s (x ∷ rest) rest)
  once_if x rest p h true = (p, h)
  once_if x rest p h false = h

  once_left : (p : X → Bool) (xs : List X) → Once xs → Once (filter p xs)
  once_left p [] h = tt
  once_left p (x ∷ xs) h = once_if x (filter p xs) (any_left (key x) p xs h.0) (once_left p xs h.1) (p x)

  none_step : (y x : X) (rest : List X) → list_any (has_key key (key y)) rest ≡ false → (s : Bool) → same_values (key y) (key x) ≡ s → list_any (has_key key (key y)) (cond (not s) (x ∷ rest) rest) ≡ false
  none_step y x rest h true p = h
  none_step y x rest h false p = λ i. (same_values-turned (key x) (key y) ∙ p) i || h i

  -- behind those that differ from y none has y's key
  none_same : (y : X) (xs : List X) → list_any (has_key key (key y)) (filter (differs key y) xs) ≡ false
  none_same y [] = refl
  none_same y (x ∷ xs) = none_step y x (filter (differs key y) xs) (none_same y xs) (same_values (key y) (key x)) refl

  pub firsts_once : (xs : List X) → Once (firsts_by key xs)
  firsts_once [] = tt
  firsts_once (x ∷ xs) = (none_same x (firsts_by key xs), once_left (differs key x) (firsts_by key xs) (firsts_once xs))

  module _ {R : Type 0} (row : X → R) where
    -- the rows with the key of a first
    abbrev pub rows_of : List X → X → List R
    rows_of xs first = map row (filter (λ x. same_values (key first) (key x)) xs)

    rows-push : (xs : List X) (x first : X) (s : Bool) → same_values (key first) (key x) ≡ s → rows_of (xs ++ x ∷ []) first ≡ rows_of xs first ++ map row (cond s (x ∷ []) [])
    rows-push xs x first s p =
        ap (map row) (filter-append (λ y. same_values (key first) (key y)) xs (x ∷ []) ∙ ap (λ (t : Bool). filter (λ y. same_values (key first) (key y)) xs ++ cond t (x ∷ []) []) p)
        ∙ map-append row (filter (λ y. same_values (key first) (key y)) xs) (cond s (x ∷ []) [])

    -- the groups of other keys are as they were
    others : (xs : List X) (x : X) (firsts : List X) → list_any (has_key key (key x)) firsts ≡ false → map (rows_of (xs ++ x ∷ [])) firsts ≡ map (rows_of xs) firsts
    others xs x [] h = refl
    others xs x (f ∷ fs) h =
        ap₂ (λ (g : List R) (gs : List (List R)). g ∷ gs)
        (rows-push xs x f false (first_no (same_values (key f) (key x)) (list_any (has_key key (key x)) fs) h) ∙ append-nil (rows_of xs f))
        (others xs x fs (second_no (same_values (key f) (key x)) (list_any (has_key key (key x)) fs) h))

    -- where the keys of the firsts have the key of x
    abbrev pub place_in : X → List X → ℕ
    place_in x firsts = position_or_len (same_values (key x)) (map key firsts)

    record Found (xs : List X) (x : X) (firsts : List X) (at : ℕ) : Type 0 where
      pub below : at < length firsts
      pub grown : map (rows_of (xs ++ x ∷ [])) firsts ≡ set (map (rows_of xs) firsts) at (get_or (map (rows_of xs) firsts) at [] ++ row x ∷ [])

    found_step : (xs : List X) (x f : X) (fs : List X) → Once (f ∷ fs) → (list_any (has_key key (key x)) fs ≡ true → Found xs x fs (place_in x fs))
        → (s : Bool) → same_values (key f) (key x) ≡ s → (s || list_any (has_key key (key x)) fs) ≡ true → Found xs x (f ∷ fs) (cond (not s) (suc (place_in x fs)) 0)
    found_step xs x f fs once rest true p h = record {
      below = omega arith;
      grown = ap₂ (λ (g : List R) (gs : List (List R)). g ∷ gs) (rows-push xs x f true p)
          (others xs x fs (ap (λ (k : List Value). list_any (has_key key k) fs) (sym (same_values-exact (key f) (key x) p)) ∙ once.0));
    }
    found_step xs x f fs once rest false p h =
        let r = rest h in
        record {
          below = (let b = r.below in omega arith);
          grown = ap₂ (λ (g : List R) (gs : List (List R)). g ∷ gs) (rows-push xs x f false p ∙ append-nil (rows_of xs f)) r.grown;
        }

    found : (xs : List X) (x : X) (firsts : List X) → Once firsts → list_any (has_key key (key x)) firsts ≡ true → Found xs x firsts (place_in x firsts)
    found xs x [] once h = absurd (true≢false (sym h))
    found xs x (f ∷ fs) once h =
        let next : suc (place_in x fs) ≡ 1 + place_in x fs = omega arith in
        subst (Found xs x (f ∷ fs)) (λ i. cond (not (same_values-turned (key f) (key x) i)) (next i) 0)
        (found_step xs x f fs once (found xs x fs once.1) (same_values (key f) (key x)) refl h)

    abbrev pub lists_of : List X → List (List R)
    lists_of xs = map (rows_of xs) (firsts_by key xs)

    -- a member whose key has a group goes to the end of that group
    pub record Grown (xs : List X) (x : X) (at : ℕ) : Type 0 where
      pub below : at < length (lists_of xs)
      pub lists : lists_of (xs ++ x ∷ []) ≡ set (lists_of xs) at (get_or (lists_of xs) at [] ++ row x ∷ [])

    pub grown-one : (xs : List X) (x : X) → list_any (has_key key (key x)) (firsts_by key xs) ≡ true → Grown xs x (place_in x (firsts_by key xs))
    grown-one xs x there =
        let f = found xs x (firsts_by key xs) (firsts_once xs) there in
        let stays : firsts_by key (xs ++ x ∷ []) ≡ firsts_by key xs = firsts_by-push key xs x ∙ ap (λ (b : Bool). cond b (firsts_by key xs) (firsts_by key xs ++ x ∷ [])) there in
        record {
          below = (let b = f.below in let l = length-map (firsts_by key xs) (rows_of xs) in omega arith);
          lists = ap (map (rows_of (xs ++ x ∷ []))) stays ∙ f.grown;
        }

    none_of : (k : List Value) (xs : List X) → list_any (has_key key k) xs ≡ false → filter (λ x. same_values k (key x)) xs ≡ []
    none_of k [] h = refl
    none_of k (x ∷ xs) h =
        (λ i. cond ((same_values-turned k (key x) ∙ first_no (has_key key k x) (list_any (has_key key k) xs) h) i) (x ∷ filter (λ y. same_values k (key y)) xs) (filter (λ y. same_values k (key y)) xs))
        ∙ none_of k xs (second_no (has_key key k x) (list_any (has_key key k) xs) h)

    -- a member with a new key makes a group of its own at the end
    pub added-one : (xs : List X) (x : X) → list_any (has_key key (key x)) (firsts_by key xs) ≡ false → lists_of (xs ++ x ∷ []) ≡ lists_of xs ++ (row x ∷ []) ∷ []
    added-one xs x none =
        let more : firsts_by key (xs ++ x ∷ []) ≡ firsts_by key xs ++ x ∷ [] = firsts_by-push key xs x ∙ ap (λ (b : Bool). cond b (firsts_by key xs) (firsts_by key xs ++ x ∷ [])) none in
        let alone : rows_of (xs ++ x ∷ []) x ≡ row x ∷ [] =
        rows-push xs x x true (same_values-itself (key x)) ∙ ap (λ (ys : List X). map row ys ++ row x ∷ []) (none_of (key x) xs (sym (any_firsts key (key x) xs) ∙ none)) in
        ap (map (rows_of (xs ++ x ∷ []))) more ∙ map-append (rows_of (xs ++ x ∷ [])) (firsts_by key xs) (x ∷ [])
        ∙ ap₂ (λ (gs : List (List R)) (g : List R). gs ++ g ∷ []) (others xs x (firsts_by key xs) none) alone

    lists_from : (xs firsts : List X) → map (map row) (map (λ first. filter (λ x. same_values (key first) (key x)) xs) firsts) ≡ map (rows_of xs) firsts
    lists_from xs [] = refl
    lists_from xs (f ∷ fs) = ap (λ (gs : List (List R)). rows_of xs f ∷ gs) (lists_from xs fs)

    pub groups-are : (xs : List X) → map (map row) (groups_by key xs) ≡ map (rows_of xs) (firsts_by key xs)
    groups-are xs = lists_from xs (firsts_by key xs)

abbrev pub key_in : Keyed → List Value
key_in member = worths member.key

abbrev pub row_in : Keyed → Joined
row_in member = member.row

lent_back : (rows : List Joined) (f : List Value → List Value) → map (λ (pair : List Value × Joined). pair.1) (map (λ row. (f (values_in row), row)) rows) ≡ rows
lent_back [] f = refl
lent_back (row ∷ rows) f = ap (λ (rest : List Joined). row ∷ rest) (lent_back rows f)

all_back : (lists : List (List Joined)) (f : List Value → List Value) → map (map (λ (pair : List Value × Joined). pair.1)) (map (map (λ row. (f (values_in row), row))) lists) ≡ lists
all_back [] f = refl
all_back (rows ∷ lists) f = ap₂ (λ (first : List Joined) (rest : List (List Joined)). first ∷ rest) (lent_back rows f) (all_back lists f)

-- grouping rows by values that are kept beside them is grouping the rows
pub groups-keyed : (f : List Value → List Value) (members : List Keyed) (rows : List Joined) → map member_of members ≡ map (λ row. (f (values_in row), row)) rows
    → map (map values_in) (map (map row_in) (groups_by key_in members)) ≡ groups_by f (map values_in rows)
groups-keyed f members rows are =
    let first : List Value × Joined → List Value = λ pair. pair.0 in
    let second : List Value × Joined → Joined = λ pair. pair.1 in
    ap (map (map values_in))
    (sym (maps_twice second member_of (groups_by key_in members))
    ∙ ap (map (map second)) (sym (groups_mapped member_of first members) ∙ ap (λ (pairs : List (List Value × Joined)). groups_by first pairs) are ∙ groups_mapped (λ row. (f (values_in row), row)) first rows)
    ∙ all_back (groups_by (λ row. f (values_in row)) rows) f)
    ∙ sym (groups_mapped values_in f rows)
