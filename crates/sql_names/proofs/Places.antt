-- The tables that names see are those of FROM, and what a name stands for is a column of one of them.
use Rattle.std.proofs.Common.{◌≡◌, ℕ, zero, suc, ◌≤◌, ◌+◌, ◌<◌, ◌++◌, Bool, true, false, List, [], ◌∷◌, length, take, map, Option, Some, None, refl, ap, sym, ◌∙◌, subst, arith, append_assoc, length-append}
use Rattle.std.specs.Prelude.{slice_get, if◌then◌else◌}
use Rattle.std.specs.Option.{option_map_or, option_or}
use Rattle.std.proofs.lemmas.List.{take_at, take-map}
use Rattle.std.proofs.lemmas.Option.{slice_get_within, none-some, same_Some}
use Rattle.sql_tree.specs.Select.{RefTree}
use Rattle.sql_query.specs.declared.derived.Derived.{Derived}
use Rattle.sql_query.specs.declared.query.SourceColumn.{SourceColumn}
use Rattle.sql_query.specs.declared.place.Place.{Place}
use Rattle.sql_scope.specs.declared.scope.Seen.{Seen}
use Rattle.sql_names.specs.Kinds.{place_at}
use Rattle.sql_scope.specs.Scope.{columns_seen, seen_at, scope_from, scope_of, place_from, place_in, plain_place, known_place}
use Rattle.sql_scope.specs.Spelling.{same_name}
use Rattle.sql_query.specs.Standing.{row_width, IsColumn}
use Rattle.sql_query.proofs.Widths.{row_width-append}

-- a table that names see is the one of its number among these
pub record IsSeen (tables : List (List SourceColumn)) (seen : Seen) : Type 0 where
  pub of_table : slice_get tables seen.source ≡ Some seen.columns
  pub begins : seen.at ≡ row_width (take seen.source tables)
  pub ends : seen.at + length seen.columns ≤ row_width tables

abbrev pub AreSeen : List (List SourceColumn) → List Seen → Type 0
AreSeen tables [] = Unit {0}
AreSeen tables (seen ∷ scope) = IsSeen tables seen × AreSeen tables scope

get_behind : {A : Type 0} (before : List A) (x : A) (rest : List A) → slice_get (before ++ x ∷ rest) (length before) ≡ Some x
get_behind [] x rest = refl
get_behind (b ∷ before) x rest = get_behind before x rest

pub get_at : {A : Type 0} (xs before : List A) (x : A) (rest : List A) (n : ℕ) → xs ≡ before ++ x ∷ rest → n ≡ length before → slice_get xs n ≡ Some x
get_at {A = A} xs before x rest n e m = ap (λ (ys : List A). slice_get ys n) e ∙ ap (slice_get (before ++ x ∷ rest)) m ∙ get_behind before x rest

pub get_take : {A : Type 0} (xs : List A) (n m : ℕ) → n < m → slice_get (take m xs) n ≡ slice_get xs n
get_take [] n zero within = refl
get_take [] n (suc m) within = refl
get_take (x ∷ xs) n zero within = absurd (omega arith)
get_take (x ∷ xs) zero (suc m) within = refl
get_take (x ∷ xs) (suc n) (suc m) within = get_take xs n m (omega arith)

seen_here : (derived : List Derived) (text : List ℕ) (before rest : List (List SourceColumn)) (ref : RefTree) (source at : ℕ) → source ≡ length before → at ≡ row_width before → IsSeen (before ++ columns_seen derived text ref ∷ rest) (seen_at derived text source at ref)
seen_here derived text before rest ref source at s a = record {
  of_table = get_at _ before (columns_seen derived text ref) rest source refl s;
  begins = a ∙ sym (ap row_width (take_at before (columns_seen derived text ref ∷ rest) source (sym s)));
  ends = let all = row_width-append before (columns_seen derived text ref ∷ rest) in omega arith;
}

scope_seen : (derived : List Derived) (text : List ℕ) (before : List (List SourceColumn)) (refs : List RefTree) (source at : ℕ) → source ≡ length before → at ≡ row_width before → AreSeen (before ++ map (columns_seen derived text) refs) (scope_from derived text source at refs)
scope_seen derived text before [] source at s a = tt
scope_seen derived text before (ref ∷ refs) source at s a =
    let many = length-append before (columns_seen derived text ref ∷ []) in
    let wide = row_width-append before (columns_seen derived text ref ∷ []) in (
      seen_here derived text before (map (columns_seen derived text) refs) ref source at s a,
      subst (λ (tables : List (List SourceColumn)). AreSeen tables (scope_from derived text (source + 1) (at + length (columns_seen derived text ref)) refs)) (append_assoc before (columns_seen derived text ref ∷ []) (map (columns_seen derived text) refs))
          (scope_seen derived text (before ++ columns_seen derived text ref ∷ []) refs (source + 1) (at + length (columns_seen derived text ref)) (omega arith) (omega arith)),
    )

scope_take : (derived : List Derived) (text : List ℕ) (source at n : ℕ) (refs : List RefTree) → take n (scope_from derived text source at refs) ≡ scope_from derived text source at (take n refs)
scope_take derived text source at zero refs = refl
scope_take derived text source at (suc n) [] = refl
scope_take derived text source at (suc n) (ref ∷ refs) = ap (λ (scope : List Seen). seen_at derived text source at ref ∷ scope) (scope_take derived text (source + 1) (at + length (columns_seen derived text ref)) n refs)

-- what stands at FROM's first n tables sees these
pub seen_up_to : (derived : List Derived) (text : List ℕ) (n : ℕ) (refs : List RefTree) → AreSeen (take n (map (columns_seen derived text) refs)) (take n (scope_of derived text refs))
unfolding scope_of
seen_up_to derived text n refs =
    subst (λ (scope : List Seen). AreSeen (take n (map (columns_seen derived text) refs)) scope) (sym (scope_take derived text 0 0 n refs))
    (subst (λ (tables : List (List SourceColumn)). AreSeen tables (scope_from derived text 0 0 (take n refs))) (sym (take-map (columns_seen derived text) n refs))
    (scope_seen derived text [] (take n refs) 0 0 refl refl))

pub all_seen : (derived : List Derived) (text : List ℕ) (refs : List RefTree) → AreSeen (map (columns_seen derived text) refs) (scope_of derived text refs)
unfolding scope_of
all_seen derived text refs = scope_seen derived text [] refs 0 0 refl refl

pub seen_take : (tables : List (List SourceColumn)) (n : ℕ) (scope : List Seen) → AreSeen tables scope → AreSeen tables (take n scope)
seen_take tables zero scope seen = tt
seen_take tables (suc n) [] seen = tt
seen_take tables (suc n) (first ∷ scope) seen = (seen.0, seen_take tables n scope seen.1)

seen_get : (tables : List (List SourceColumn)) (scope : List Seen) (n : ℕ) (seen : Seen) → AreSeen tables scope → slice_get scope n ≡ Some seen → IsSeen tables seen
seen_get tables [] n seen are e = absurd (none-some seen e)
seen_get tables (first ∷ scope) zero seen are e = subst (IsSeen tables) (same_Some first seen e) are.0
seen_get tables (first ∷ scope) (suc n) seen are e = seen_get tables scope n seen are.1 e

-- the column of a table that is seen, by its number there
pub column_here : (tables : List (List SourceColumn)) (seen : Seen) (number : ℕ) (column : SourceColumn) → IsSeen tables seen → slice_get seen.columns number ≡ Some column → IsColumn tables seen.source number (seen.at + number) column.affinity
column_here tables seen number column is at = record {
  columns = seen.columns;
  found = column;
  of_table = is.of_table;
  of_column = at;
  has_affinity = refl;
  stands_at = ap (λ (n : ℕ). n + number) is.begins;
  is_within = let within = slice_get_within seen.columns number column at in let ends = is.ends in omega arith;
}

abbrev pub IsPlace : List (List SourceColumn) → Place → Type 0
IsPlace tables p = IsColumn tables p.source p.column p.at p.affinity

chosen : {A : Type 0} (P : A → Type 0) (test : Bool) (x : A) (o : Option A) (y : A) → (if test then Some x else o) ≡ Some y → P x → (o ≡ Some y → P y) → P y
chosen P true x o y e here there = subst P (same_Some x y e) here
chosen P false x o y e here there = there e

either : {A : Type 0} (P : Type 0) (test : Bool) (a b : Option A) (y : A) → (if test then a else b) ≡ Some y → (a ≡ Some y → P) → (b ≡ Some y → P) → P
either P true a b y e here there = here e
either P false a b y e here there = there e

first_or : {A : Type 0} (P : Type 0) (a b : Option A) (y : A) → option_or a b ≡ Some y → (a ≡ Some y → P) → (b ≡ Some y → P) → P
first_or P None b y e here there = there e
first_or P (Some x) b y e here there = here e

place_from_is : (tables : List (List SourceColumn)) (seen : Seen) (name : List ℕ) (front columns : List SourceColumn) (number : ℕ) (p : Place) → IsSeen tables seen → seen.columns ≡ front ++ columns → number ≡ length front → place_from seen name number columns ≡ Some p → IsPlace tables p
place_from_is tables seen name front [] number p is e n found = absurd (none-some p found)
place_from_is tables seen name front (column ∷ columns) number p is e n found =
    let many = length-append front (column ∷ []) in
    chosen (IsPlace tables) (same_name column.name name) _ _ p found
    (column_here tables seen number column is (get_at seen.columns front column columns number e n))
    (λ (later : place_from seen name (number + 1) columns ≡ Some p). place_from_is tables seen name (front ++ column ∷ []) columns (number + 1) p is (e ∙ sym (append_assoc front (column ∷ []) columns)) (omega arith) later)

place_in_is : (tables : List (List SourceColumn)) (seen : Seen) (name : List ℕ) (p : Place) → IsSeen tables seen → place_in name seen ≡ Some p → IsPlace tables p
unfolding place_in
place_in_is tables seen name p is found = place_from_is tables seen name [] seen.columns 0 p is refl refl found

pub plain_place_is : (tables : List (List SourceColumn)) (scope : List Seen) (name : List ℕ) (p : Place) → AreSeen tables scope → plain_place name scope ≡ Some p → IsPlace tables p
plain_place_is tables [] name p are found = absurd (none-some p found)
plain_place_is tables (seen ∷ scope) name p are found =
    first_or (IsPlace tables p) (place_in name seen) (plain_place name scope) p found (place_in_is tables seen name p are.0) (plain_place_is tables scope name p are.1)

pub known_place_is : (tables : List (List SourceColumn)) (scope : List Seen) (table name : List ℕ) (p : Place) → AreSeen tables scope → known_place table name scope ≡ Some p → IsPlace tables p
known_place_is tables [] table name p are found = absurd (none-some p found)
known_place_is tables (seen ∷ scope) table name p are found =
    either (IsPlace tables p) (same_name seen.known table) (option_or (place_in name seen) (known_place table name scope)) (known_place table name scope) p found
    (λ (e : option_or (place_in name seen) (known_place table name scope) ≡ Some p). first_or (IsPlace tables p) (place_in name seen) (known_place table name scope) p e (place_in_is tables seen name p are.0) (known_place_is tables scope table name p are.1))
    (known_place_is tables scope table name p are.1)

place_by : (tables : List (List SourceColumn)) (scope : List Seen) (number : ℕ) (name : List ℕ) (p : Place) (at : Option Seen) → AreSeen tables scope → slice_get scope number ≡ at → option_map_or (place_in name) at None ≡ Some p → IsPlace tables p
place_by tables scope number name p None are is found = absurd (none-some p found)
place_by tables scope number name p (Some seen) are is found = place_in_is tables seen name p (seen_get tables scope number seen are is) found

pub place_at_is : (tables : List (List SourceColumn)) (scope : List Seen) (number : ℕ) (name : List ℕ) (p : Place) → AreSeen tables scope → place_at number name scope ≡ Some p → IsPlace tables p
place_at_is tables scope number name p are found = place_by tables scope number name p (slice_get scope number) are refl found
