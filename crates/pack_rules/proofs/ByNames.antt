-- A stable sort by names, and then the first of each run of equal names.
use Rattle.std.proofs.Common.{◌≡◌, ℕ, ◌≤◌, ◌<◌, suc, refl, sym, ap, ◌∙◌, Bool, true, false, cond, not, ◌&&◌, true≢false, List, [], ◌∷◌, length, get_or, filter, Option, Some, None, Ordering, Less, Equal, Greater, is_lt, arith, bytes_eq, find}
use Rattle.std.specs.Ordering.{ordering_reverse}
use Rattle.std.specs.Cmp.{IsStrictWeakOrder}
use Rattle.std.specs.List.{dedup, dedup_from}
use Rattle.std.specs.List.Sorted.{IsSortedBy, IsStableBy, ties}
use Rattle.std.proofs.lemmas.List.Sorted.{ranks_by, sorted_far}
use Rattle.std.proofs.lemmas.Slice.Eq.{bytes_eq-Decides}
use Rattle.osq_value.specs.declared.value.Value.{Value}
use Rattle.osq_value.specs.declared.value.Value.TheVariants.{Null, Int, Text}
use Rattle.osq_value.specs.Order.{order_of}
use Rattle.osq_value.proofs.OrderLaws.{order_of-total, order_of-itself, equal_of-order}
use Rattle.pack_rules.specs.declared.schedule.Mode.TheVariants.{Snapshot}
use Rattle.pack_rules.specs.declared.schedule.Scheduled.{Scheduled}
use Rattle.pack_rules.specs.ByName.{is_before, names_rise, has_name, IsByName}

abbrev pub same_name : Scheduled → Scheduled → Bool
same_name later earlier = bytes_eq later.key.name earlier.key.name

abbrev name_value : Scheduled → Value
name_value scheduled = Text scheduled.key.name

pub is_before-order : IsStrictWeakOrder is_before
is_before-order = ranks_by order_of-total name_value

abbrev bytes_of : Value → List ℕ
bytes_of Null = []
bytes_of (Int n) = []
bytes_of (Text text) = text

-- names that the order doesn't tell apart are equal
equal_names : (a b : List ℕ) → order_of (Text a) (Text b) ≡ Equal → bytes_eq a b ≡ true
equal_names a b e = (bytes_eq-Decides a b).1 (ap bytes_of (equal_of-order (Text a) (Text b) e))

names_equal : (a b : List ℕ) → bytes_eq a b ≡ true → order_of (Text a) (Text b) ≡ Equal
names_equal a b e = ap (λ (c : List ℕ). order_of (Text a) (Text c)) (sym ((bytes_eq-Decides a b).0 e)) ∙ order_of-itself (Text a)

turned : (a b : List ℕ) (r : Ordering) → order_of (Text a) (Text b) ≡ r → order_of (Text b) (Text a) ≡ ordering_reverse r
turned a b r e = order_of-total.antisymm (Text b) (Text a) ∙ ap ordering_reverse e

-- neither stands before the other exactly where the names are equal
tie_is : (a b : List ℕ) (r : Ordering) → order_of (Text a) (Text b) ≡ r
    → (not (is_lt (order_of (Text a) (Text b))) && not (is_lt (order_of (Text b) (Text a)))) ≡ bytes_eq a b
tie_is a b r e = (λ i. not (is_lt (e i)) && not (is_lt (turned a b r e i))) ∙ by r e (bytes_eq a b) refl where
  by : (r : Ordering) → order_of (Text a) (Text b) ≡ r → (t : Bool) → bytes_eq a b ≡ t → (not (is_lt r) && not (is_lt (ordering_reverse r))) ≡ t
  by Less e true same = absurd (let no : Less ≡ Equal = sym e ∙ names_equal a b same in let no2 : ⊥ = cc in no2)
  by Less e false same = refl
  by Equal e true same = refl
  by Equal e false same = absurd (true≢false (sym (equal_names a b e) ∙ same))
  by Greater e true same = absurd (let no : Greater ≡ Equal = sym e ∙ names_equal a b same in let no2 : ⊥ = cc in no2)
  by Greater e false same = refl

ties_same : (x y : Scheduled) → ties is_before x y ≡ has_name x.key.name y
ties_same x y = tie_is x.key.name y.key.name (order_of (name_value x) (name_value y)) refl

-- of two names that differ one stands before the other
before_of : (x k : Scheduled) → same_name x k ≡ false → is_before x k ≡ false → is_before k x ≡ true
before_of x k other after = by (order_of (name_value x) (name_value k)) refl where
  by : (r : Ordering) → order_of (name_value x) (name_value k) ≡ r → is_before k x ≡ true
  by Less e = absurd (true≢false (sym (ap is_lt e) ∙ after))
  by Equal e = absurd (true≢false (sym (equal_names x.key.name k.key.name e) ∙ other))
  by Greater e = ap is_lt (turned x.key.name k.key.name Greater e)

-- none of the list stands before x
abbrev Above : Scheduled → List Scheduled → Type 0
Above x [] = Unit {0}
Above x (y ∷ ys) = (is_before y x ≡ false) × Above x ys

abbrev Rising : List Scheduled → Type 0
Rising [] = Unit {0}
Rising (x ∷ xs) = Above x xs × Rising xs

above_of : (x : Scheduled) (xs : List Scheduled) → ((k : ℕ) → k < length xs → is_before (get_or xs k x) x ≡ false) → Above x xs
above_of x [] h = tt
above_of x (y ∷ ys) h = (h 0 (omega arith), above_of x ys (λ k p. h (suc k) (omega arith)))

rising_of : (xs : List Scheduled) → ((i j : ℕ) (d : Scheduled) → i ≤ j → j < length xs → is_before (get_or xs j d) (get_or xs i d) ≡ false) → Rising xs
rising_of [] h = tt
rising_of (x ∷ xs) h = (above_of x xs (λ k p. h 0 (suc k) x (omega arith) (omega arith)), rising_of xs (λ i j d p q. h (suc i) (suc j) d (omega arith) (omega arith)))

first_kept : (x : Scheduled) (xs : List Scheduled) → (rest : List Scheduled) × (dedup_from same_name x xs ≡ x ∷ rest)
first_kept x [] = ([], refl)
first_kept x (y ∷ ys) =
    elim (same_name y x) as (λ t. (rest : List Scheduled) × (cond t (dedup_from same_name x ys) (x ∷ dedup_from same_name y ys) ≡ x ∷ rest)) [
      | true ↦ first_kept x ys
      | false ↦ (dedup_from same_name y ys, refl)
    ]

rise_more : (k x : Scheduled) (kept : List Scheduled) → is_before k x ≡ true → (rest : List Scheduled) × (kept ≡ x ∷ rest) → names_rise kept ≡ true → names_rise (k ∷ kept) ≡ true
rise_more k x kept before (rest, is) rise =
    ap (λ (l : List Scheduled). names_rise (k ∷ l)) is ∙ ap (λ t. t && names_rise (x ∷ rest)) before ∙ sym (ap names_rise is) ∙ rise

rise_from : (k : Scheduled) (xs : List Scheduled) → Above k xs → Rising xs → names_rise (dedup_from same_name k xs) ≡ true
rise_from k [] above rising = refl
rise_from k (x ∷ xs) above rising = by (rise_from k xs above.1 rising.1) (rise_from x xs rising.0 rising.1) (same_name x k) refl where
  by : names_rise (dedup_from same_name k xs) ≡ true → names_rise (dedup_from same_name x xs) ≡ true
      → (t : Bool) → same_name x k ≡ t → names_rise (cond t (dedup_from same_name k xs) (k ∷ dedup_from same_name x xs)) ≡ true
  by first second true e = first
  by first second false e = rise_more k x (dedup_from same_name x xs) (before_of x k e above.0) (first_kept x xs) second

rise_all : (xs : List Scheduled) → Rising xs → names_rise (dedup same_name xs) ≡ true
rise_all [] rising = refl
rise_all (x ∷ xs) rising = rise_from x xs rising.0 rising.1

-- what is left finds what was found
collapse : (t : Bool) (k x : Scheduled) (rest : Option Scheduled) → cond t (Some k) rest ≡ cond t (Some k) (cond t (Some x) rest)
collapse true k x rest = refl
collapse false k x rest = refl

same_found : (name : List ℕ) (x k : Scheduled) → same_name x k ≡ true → has_name name k ≡ has_name name x
same_found name x k same = ap (λ (n : List ℕ). bytes_eq name n) (sym ((bytes_eq-Decides x.key.name k.key.name).0 same))

find_from : (name : List ℕ) (k : Scheduled) (xs : List Scheduled) → find (has_name name) (dedup_from same_name k xs) ≡ find (has_name name) (k ∷ xs)
find_from name k [] = refl
find_from name k (x ∷ xs) = by (find_from name k xs) (find_from name x xs) (same_name x k) refl where
  by : find (has_name name) (dedup_from same_name k xs) ≡ find (has_name name) (k ∷ xs)
      → find (has_name name) (dedup_from same_name x xs) ≡ find (has_name name) (x ∷ xs)
      → (t : Bool) → same_name x k ≡ t → find (has_name name) (cond t (dedup_from same_name k xs) (k ∷ dedup_from same_name x xs)) ≡ find (has_name name) (k ∷ x ∷ xs)
  by first second true e =
      first ∙ collapse (has_name name k) k x (find (has_name name) xs)
      ∙ ap (λ t. cond (has_name name k) (Some k) (cond t (Some x) (find (has_name name) xs))) (same_found name x k e)
  by first second false e = ap (λ (r : Option Scheduled). cond (has_name name k) (Some k) r) second

find_all : (name : List ℕ) (xs : List Scheduled) → find (has_name name) (dedup same_name xs) ≡ find (has_name name) xs
find_all name [] = refl
find_all name (x ∷ xs) = find_from name x xs

abbrev first_of : List Scheduled → Option Scheduled
first_of [] = None
first_of (x ∷ xs) = Some x

find_first : (test : Scheduled → Bool) (xs : List Scheduled) → find test xs ≡ first_of (filter test xs)
find_first test [] = refl
find_first test (x ∷ xs) =
    elim (test x) as (λ t. cond t (Some x) (find test xs) ≡ first_of (cond t (x ∷ filter test xs) (filter test xs))) [
      | true ↦ refl
      | false ↦ find_first test xs
    ]

find_alike : (p q : Scheduled → Bool) → ((x : Scheduled) → p x ≡ q x) → (xs : List Scheduled) → find p xs ≡ find q xs
find_alike p q same [] = refl
find_alike p q same (x ∷ xs) =
    ap (λ t. cond t (Some x) (find p xs)) (same x) ∙ ap (λ (r : Option Scheduled). cond (q x) (Some x) r) (find_alike p q same xs)

-- a stable sort leaves the first of each name first
find_sorted : (xs ys : List Scheduled) → IsStableBy is_before xs ys → (name : List ℕ) → find (has_name name) ys ≡ find (has_name name) xs
find_sorted xs ys stable name =
    let sample : Scheduled = record { key = record { name = name; text = []; mode = Snapshot }; interval = 0 } in
    let tied : Scheduled → Bool = ties is_before sample in
    let same : (x : Scheduled) → tied x ≡ has_name name x = ties_same sample in
    sym (find_alike tied (has_name name) same ys) ∙ find_first tied ys ∙ ap first_of (stable sample)
    ∙ sym (find_first tied xs) ∙ find_alike tied (has_name name) same xs

pub by_name_is : (offered items sorted queries : List Scheduled) → items ≡ offered → IsSortedBy is_before sorted → IsStableBy is_before items sorted
    → queries ≡ dedup same_name sorted → IsByName offered queries
by_name_is offered items sorted queries items_are in_order stable queries_are = record {
  rise = ap names_rise queries_are ∙ rise_all sorted (rising_of sorted (sorted_far is_before is_before-order sorted in_order));
  first = λ name.
      ap (λ (l : List Scheduled). find (has_name name) l) queries_are ∙ find_all name sorted ∙ find_sorted items sorted stable name
      ∙ ap (λ (l : List Scheduled). find (has_name name) l) items_are;
}
