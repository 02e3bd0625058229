-- What a text with parts means over a view.
use Rattle.std.specs.Prelude.{ℕ, ◌+◌, ◌==◌, if◌then◌else◌, List, [], ◌∷◌, length, flat_map}
use Rattle.osq_value.specs.declared.value.Value.{Value}
use Rattle.sql_query.specs.Resolved.{QueryTree}
use Rattle.sql_meaning.specs.Meaning.{View, meaning_of}
use Rattle.sql_nested.specs.Trees.{NestedTree}

-- the rows of a chain: those of its selects, joined in order
abbrev pub chain_rows : View → List QueryTree → List (List Value)
chain_rows view chain = flat_map (λ (query : QueryTree). meaning_of query view) chain

-- the view with these rows of the table of that number
abbrev pub with_rows : View → ℕ → List (List Value) → View
with_rows view id rows table = if table == id then rows else view table

-- the view with a table for each part, the first of which has that number, each over those before it
abbrev pub with_parts : View → ℕ → List (List QueryTree) → View
with_parts view id [] = view
with_parts view id (part ∷ parts) = with_parts (with_rows view id (chain_rows view part)) (id + 1) parts

-- the rows of a text whose parts are numbered from there on
abbrev pub text_rows : View → ℕ → NestedTree → List (List Value)
text_rows view id text = chain_rows (with_parts view id text.parts) text.chain

-- the view with a table for each view, each over those before it
abbrev pub with_views : View → ℕ → List NestedTree → View
with_views view id [] = view
with_views view id (text ∷ texts) = with_views (with_rows view id (text_rows view id text)) (id + 1) texts

-- the rows of a text that these views stand before
unfoldable pub nested_meaning : List NestedTree → NestedTree → View → List (List Value)
nested_meaning views text view = text_rows (with_views view 100 views) (100 + length views) text
