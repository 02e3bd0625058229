-- A view with tables beside the catalogue's, one table after the other.
use Rattle.std.proofs.Common.{◌≡◌, ◌≢◌, ℕ, zero, suc, ◌+◌, ◌-◌, ◌≤◌, refl, sym, ap, ◌∙◌, Bool, true, false, List, [], ◌∷◌, ◌++◌, length, take, Option, Some, unwrap_or, arith, append-nil, append_assoc}
use Rattle.std.specs.Prelude.{◌==◌, if◌then◌else◌, nat_le, slice_get}
use Rattle.std.proofs.lemmas.Bool.{eqb-true, eqb-false, le-leb, leb-true}
use Rattle.std.proofs.lemmas.List.{length_push, take_at}
use Rattle.osq_value.specs.declared.value.Value.{Value}
use Rattle.sql_query.specs.Resolved.{QueryTree}
use Rattle.sql_meaning.specs.Meaning.{View}
use Rattle.sql_nested.specs.Extending.{extended, next_id, with_part_rows, with_view_rows}
use Rattle.sql_nested.specs.Meanings.{chain_rows, nested_meaning, text_rows, with_parts, with_rows, with_views}
use Rattle.sql_nested.specs.Trees.{NestedTree}

abbrev pub Rows : Type 0
Rows = List (List Value)

at_end : (made : List Rows) (rows : Rows) → slice_get (made ++ rows ∷ []) (length made) ≡ Some rows
at_end [] rows = refl
at_end (first ∷ made) rows = at_end made rows

elsewhere : (made : List Rows) (rows : Rows) (place : ℕ) → place ≢ length made → slice_get (made ++ rows ∷ []) place ≡ slice_get made place
elsewhere [] rows zero other = absurd (other refl)
elsewhere [] rows (suc place) other = refl
elsewhere (first ∷ made) rows zero other = refl
elsewhere (first ∷ made) rows (suc place) other = elsewhere made rows place (λ same. other (ap suc same))

-- with no tables it is the view
none_at : (view : View) (id : ℕ) → extended view [] id ≡ view id
unfolding extended
none_at view id = by (nat_le 100 id)
  where
    by : (b : Bool) → (if b then unwrap_or (slice_get [] (id - 100)) (view id) else view id) ≡ view id
    by true = refl
    by false = refl

pub extended-none : (view : View) → extended view [] ≡ view
extended-none view = λ k id. none_at view id k

-- one table more
push_other : (view : View) (made : List Rows) (rows : Rows) (id : ℕ) → id ≢ next_id made → (b : Bool) → nat_le 100 id ≡ b
    → (if b then unwrap_or (slice_get (made ++ rows ∷ []) (id - 100)) (view id) else view id) ≡ (if b then unwrap_or (slice_get made (id - 100)) (view id) else view id)
push_other view made rows id other true derived =
    let past : 100 ≤ id = leb-true 100 id derived in
    ap (λ (o : Option Rows). unwrap_or o (view id)) (elsewhere made rows (id - 100) (λ same. other (omega (arith, same, past))))
push_other view made rows id other false _ = refl

push_at : (view : View) (made : List Rows) (rows : Rows) (id : ℕ) → extended view (made ++ rows ∷ []) id ≡ with_rows (extended view made) (next_id made) rows id
unfolding extended
push_at view made rows id = by (id == next_id made) refl
  where
    by : (b : Bool) → (id == next_id made) ≡ b
        → (if nat_le 100 id then unwrap_or (slice_get (made ++ rows ∷ []) (id - 100)) (view id) else view id)
        ≡ (if b then rows else (if nat_le 100 id then unwrap_or (slice_get made (id - 100)) (view id) else view id))
    by true same =
        let is : id ≡ 100 + length made = eqb-true id (next_id made) same in
        let derived : nat_le 100 id ≡ true = le-leb 100 id (omega (arith, is)) in
        let place : id - 100 ≡ length made = omega (arith, is) in
        ap (λ (b : Bool). if b then unwrap_or (slice_get (made ++ rows ∷ []) (id - 100)) (view id) else view id) derived
        ∙ ap (λ (n : ℕ). unwrap_or (slice_get (made ++ rows ∷ []) n) (view id)) place
        ∙ ap (λ (o : Option Rows). unwrap_or o (view id)) (at_end made rows)
    by false apart = push_other view made rows id (eqb-false id (next_id made) apart) (nat_le 100 id) refl

pub extended-push : (view : View) (made : List Rows) (rows : Rows) → extended view (made ++ rows ∷ []) ≡ with_rows (extended view made) (next_id made) rows
extended-push view made rows = λ k id. push_at view made rows id k

next-push : (made : List Rows) (rows : Rows) → next_id (made ++ rows ∷ []) ≡ next_id made + 1
next-push made rows = let long = length_push made rows in omega (arith, long)

-- the tables of parts extend the view as the parts do
pub extended-parts : (view : View) (made : List Rows) (parts : List (List QueryTree)) → extended view (with_part_rows view made parts) ≡ with_parts (extended view made) (next_id made) parts
extended-parts view made [] = refl
extended-parts view made (part ∷ parts) =
    let rows : Rows = chain_rows (extended view made) part in
    extended-parts view (made ++ rows ∷ []) parts
    ∙ ap (λ (v : View). with_parts v (next_id (made ++ rows ∷ [])) parts) (extended-push view made rows)
    ∙ ap (λ (id : ℕ). with_parts (with_rows (extended view made) (next_id made) rows) id parts) (next-push made rows)

-- and stand behind those that were there
pub parts-behind : (view : View) (made : List Rows) (parts : List (List QueryTree)) → (added : List Rows) × (with_part_rows view made parts ≡ made ++ added)
parts-behind view made [] = ([], sym (append-nil made))
parts-behind view made (part ∷ parts) =
    let rows : Rows = chain_rows (extended view made) part in
    let rest = parts-behind view (made ++ rows ∷ []) parts in
    (rows ∷ rest.0, rest.1 ∙ append_assoc made (rows ∷ []) rest.0)

pub parts-kept : (view : View) (made : List Rows) (parts : List (List QueryTree)) (count : ℕ) → length made ≡ count → take count (with_part_rows view made parts) ≡ made
parts-kept view made parts count long = let behind = parts-behind view made parts in ap (take count) behind.1 ∙ take_at made behind.0 count long

-- so do the tables of views
pub extended-views : (view : View) (made : List Rows) (views : List NestedTree) → extended view (with_view_rows view made views) ≡ with_views (extended view made) (next_id made) views
extended-views view made [] = refl
extended-views view made (first ∷ views) =
    let rows : Rows = text_rows (extended view made) (next_id made) first in
    extended-views view (made ++ rows ∷ []) views
    ∙ ap (λ (v : View). with_views v (next_id (made ++ rows ∷ [])) views) (extended-push view made rows)
    ∙ ap (λ (id : ℕ). with_views (with_rows (extended view made) (next_id made) rows) id views) (next-push made rows)

next-views : (view : View) (made : List Rows) (views : List NestedTree) → next_id (with_view_rows view made views) ≡ next_id made + length views
next-views view made [] = (let e : next_id made ≡ next_id made + 0 = omega arith in e)
next-views view made (first ∷ views) =
    let rows : Rows = text_rows (extended view made) (next_id made) first in
    let e : next_id made + 1 + length views ≡ next_id made + length (first ∷ views) = omega arith in
    next-views view (made ++ rows ∷ []) views ∙ ap (λ (id : ℕ). id + length views) (next-push made rows) ∙ e

-- a text behind its views has its meaning
pub views-mean : (view : View) (views : List NestedTree) (text : NestedTree) → text_rows (extended view (with_view_rows view [] views)) (next_id (with_view_rows view [] views)) text ≡ nested_meaning views text view
unfolding nested_meaning
views-mean view views text =
    ap (λ (v : View). text_rows v (next_id (with_view_rows view [] views)) text) (extended-views view [] views ∙ ap (λ (v : View). with_views v 100 views) (extended-none view))
    ∙ ap (λ (id : ℕ). text_rows (with_views view 100 views) id text) (next-views view [] views)
