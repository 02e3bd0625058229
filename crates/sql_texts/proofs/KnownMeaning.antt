-- The query `SELECT * FROM file_events` has the rows of that table.
use Rattle.std.proofs.Common.{◌≡◌, ℕ, List, [], ◌∷◌, ◌++◌, refl, ap, ◌∙◌, map, length, append-nil, arith}
use Rattle.std.specs.Prelude.{true, false, filter, All, codes}
use Rattle.std.proofs.lemmas.List.Elements.{All-head, All-tail}
use Rattle.osq_value.specs.declared.value.Value.{Value}
use Rattle.osq_value.specs.Catalogue.{heading_at, tables}
use Rattle.sql_meaning.specs.Expressions.{alone}
use Rattle.sql_meaning.specs.Joins.{product}
use Rattle.sql_meaning.specs.Meaning.{View, meaning_of}
use Rattle.sql_texts.specs.Meaning.{meaning, is_accepted, names_evented, names_of, names_table}
use Rattle.sql_meaning.specs.Order.{put_in, sorted_by}
use Rattle.sql_meaning.specs.Steps.{result_row, items_in}
use Rattle.sql_texts.proofs.Known.{known_text, known_query, query_in-known}

-- where nothing is less, rows stay in their order
unsorted : {X : Type 0} (xs : List X) → sorted_by (λ x y. false) xs ≡ xs
unsorted {X = X} [] = refl
unsorted {X = X} (x ∷ xs) = ap (put_in (λ a b. false) x) (unsorted xs) ∙ first xs where
  first : (ys : List X) → put_in (λ a b. false) x ys ≡ x ∷ ys
  first [] = refl
  first (y ∷ ys) = refl

-- without conditions each row stays
unfiltered : (rows : List (List Value)) → filter (λ row. true) rows ≡ rows
unfiltered [] = refl
unfiltered (row ∷ rows) = ap (λ (rest : List (List Value)). row ∷ rest) (unfiltered rows)

-- behind no row each row stands alone
joined-nothing : (rows : List (List Value)) → map (λ (row : List Value). [] ++ row) rows ≡ rows
joined-nothing [] = refl
joined-nothing (row ∷ rows) = ap (λ (rest : List (List Value)). row ∷ rest) (joined-nothing rows)

-- a row of ten values is its ten columns
columns-known : (row : List Value) → length row ≡ 10 → items_in known_query (result_row known_query (alone row)) ≡ row
columns-known [] wide = grind (arith)
columns-known (a ∷ []) wide = grind (arith)
columns-known (a ∷ b ∷ []) wide = grind (arith)
columns-known (a ∷ b ∷ c ∷ []) wide = grind (arith)
columns-known (a ∷ b ∷ c ∷ d ∷ []) wide = grind (arith)
columns-known (a ∷ b ∷ c ∷ d ∷ e ∷ []) wide = grind (arith)
columns-known (a ∷ b ∷ c ∷ d ∷ e ∷ f ∷ []) wide = grind (arith)
columns-known (a ∷ b ∷ c ∷ d ∷ e ∷ f ∷ g ∷ []) wide = grind (arith)
columns-known (a ∷ b ∷ c ∷ d ∷ e ∷ f ∷ g ∷ h ∷ []) wide = grind (arith)
columns-known (a ∷ b ∷ c ∷ d ∷ e ∷ f ∷ g ∷ h ∷ i ∷ []) wide = grind (arith)
columns-known (a ∷ b ∷ c ∷ d ∷ e ∷ f ∷ g ∷ h ∷ i ∷ j ∷ []) wide = refl
columns-known (a ∷ b ∷ c ∷ d ∷ e ∷ f ∷ g ∷ h ∷ i ∷ j ∷ k ∷ rest) wide = grind (arith)

abbrev pub IsWide : List Value → Type 0
IsWide row = length row ≡ 10

rows-known : (rows : List (List Value)) → All IsWide rows → map (items_in known_query) (map (result_row known_query) (map alone rows)) ≡ rows
rows-known [] wide = refl
rows-known (row ∷ rows) wide = ap (λ (first : List Value). first ∷ map (items_in known_query) (map (result_row known_query) (map alone rows))) (columns-known row (All-head IsWide row rows wide)) ∙ ap (λ (rest : List (List Value)). row ∷ rest) (rows-known rows (All-tail IsWide row rows wide))

-- the table has ten columns
abbrev pub AreWide : View → Type 0
AreWide view = All IsWide (view 2)

product-known : (view : View) → product view known_query.sources ≡ view 2
product-known view = append-nil _ ∙ unfiltered _ ∙ joined-nothing (view 2)

pub meaning_of-known : (view : View) → AreWide view → meaning_of known_query view ≡ view 2
meaning_of-known view wide = rw (product-known view, unfiltered (view 2), unsorted (map (result_row known_query) (map alone (view 2)))) (rows-known (view 2) wide)

pub meaning-known : (view : View) → AreWide view → meaning known_text view ≡ view 2
unfolding meaning
meaning-known view wide = rw (query_in-known) (meaning_of-known view wide)

pub is_accepted-known : is_accepted known_text ≡ true
unfolding is_accepted
is_accepted-known = rw (query_in-known) refl

pub names_evented-known : names_evented known_text ≡ true
unfolding names_evented heading_at tables
names_evented-known = rw (query_in-known) refl

-- the columns of `file_events`
abbrev pub known_names : List (List ℕ)
known_names =
    codes "target_path" ∷ codes "category" ∷ codes "action" ∷ codes "inode" ∷ codes "uid" ∷ codes "gid" ∷ codes "mode" ∷ codes "size" ∷ codes "mtime"
    ∷ codes "time" ∷ []

pub names_of-known : names_of known_text ≡ known_names
unfolding names_of
names_of-known = rw (query_in-known) refl

pub names_table-known : names_table known_text 2 ≡ true
unfolding names_table
names_table-known = rw (query_in-known) refl
