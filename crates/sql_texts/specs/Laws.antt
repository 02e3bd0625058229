-- The laws of what texts and queries mean.
use Rattle.std.specs.Prelude.{◌≡◌, ℕ, true, All, List, length}
use Rattle.osq_value.specs.declared.value.Value.{Value}
use Rattle.sql_query.specs.Answers.{is_among}
use Rattle.sql_query.specs.Resolved.{QueryTree}
use Rattle.sql_meaning.specs.Meaning.{View, meaning_of}
use Rattle.sql_texts.specs.Meaning.{meaning, names_of, names_table}

-- each row of the result has a value for each of the names of its columns
abbrev pub AreWide : Type 0
AreWide = (text : List ℕ) (view : View) → All (λ (row : List Value). length row ≡ length (names_of text)) (meaning text view)

-- the views have the same rows of each table that the text's FROM names
abbrev pub Agree : List ℕ → View → View → Type 0
Agree text one other = (table : ℕ) → names_table text table ≡ true → one table ≡ other table

-- over such views the text means the same
abbrev pub DependOnNamed : Type 0
DependOnNamed = (text : List ℕ) (one other : View) → Agree text one other → meaning text one ≡ meaning text other

-- the same of a query: each row of its result has a value for each item
abbrev pub AreWideByItems : Type 0
AreWideByItems = (query : QueryTree) (view : View) → All (λ (row : List Value). length row ≡ length query.items) (meaning_of query view)

-- and over views that have the same rows of each table of its FROM it means the same
abbrev pub DependOnSources : Type 0
DependOnSources = (query : QueryTree) (one other : View) → ((table : ℕ) → is_among table query.sources ≡ true → one table ≡ other table) → meaning_of query one ≡ meaning_of query other
