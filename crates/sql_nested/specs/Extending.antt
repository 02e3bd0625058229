-- A view with tables beside the catalogue's.
use Rattle.std.specs.Prelude.{◌≡◌, ℕ, ◌+◌, ◌-◌, ◌<◌, nat_le, if◌then◌else◌, unwrap_or, slice_get, Bool, List, [], ◌∷◌, ◌++◌, length}
use Rattle.std.proofs.Common.{ap}
use Rattle.std.proofs.lemmas.Bool.{lt-leb}
use Rattle.osq_value.specs.declared.value.Value.{Value}
use Rattle.sql_meaning.specs.Meaning.{View}
use Rattle.sql_query.specs.Resolved.{QueryTree}
use Rattle.sql_query.specs.Tables.{FIRST_DERIVED}
use Rattle.sql_nested.specs.Meanings.{chain_rows, text_rows}
use Rattle.sql_nested.specs.Trees.{NestedTree}

-- The rows of these tables, of which the first is the first derived one. Before them and behind them the view's own stand.
unfoldable pub extended : View → List (List (List Value)) → View
extended view made id = if nat_le FIRST_DERIVED id then unwrap_or (slice_get made (id - FIRST_DERIVED)) (view id) else view id

pub extended-below : (view : View) (made : List (List (List Value))) (id : ℕ) → id < FIRST_DERIVED → extended view made id ≡ view id
unfolding extended
extended-below view made id below = ap (λ (b : Bool). if b then unwrap_or (slice_get made (id - FIRST_DERIVED)) (view id) else view id) (lt-leb FIRST_DERIVED id below)

-- the number of the table behind them
abbrev pub next_id : List (List (List Value)) → ℕ
next_id made = FIRST_DERIVED + length made

-- with a table for each part behind them, each over those before it
abbrev pub with_part_rows : View → List (List (List Value)) → List (List QueryTree) → List (List (List Value))
with_part_rows view made [] = made
with_part_rows view made (part ∷ parts) = with_part_rows view (made ++ chain_rows (extended view made) part ∷ []) parts

-- and with one for each view
abbrev pub with_view_rows : View → List (List (List Value)) → List NestedTree → List (List (List Value))
with_view_rows view made [] = made
with_view_rows view made (text ∷ texts) = with_view_rows view (made ++ text_rows (extended view made) (next_id made) text ∷ []) texts
