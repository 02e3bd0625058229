-- What a text means over a view: nothing where it is no query.
use Rattle.std.specs.Prelude.{ℕ, Bool, true, false, List, [], Option, Some, None}
use Rattle.osq_value.specs.declared.value.Value.{Value}
use Rattle.sql_query.specs.Answers.{is_among, is_evented_query, result_names}
use Rattle.sql_query.specs.Resolved.{QueryTree}
use Rattle.sql_meaning.specs.Meaning.{View, meaning_of}
use Rattle.sql_texts.specs.Texts.{query_in}

-- of a text's query, where it is one
abbrev pub meaning_if : Option QueryTree → View → List (List Value)
meaning_if None view = []
meaning_if (Some query) view = meaning_of query view

abbrev pub is_query : Option QueryTree → Bool
is_query None = false
is_query (Some query) = true

abbrev pub is_evented_if : Option QueryTree → Bool
is_evented_if None = false
is_evented_if (Some query) = is_evented_query query

abbrev pub has_table_if : Option QueryTree → ℕ → Bool
has_table_if None table = false
has_table_if (Some query) table = is_among table query.sources

abbrev pub names_if : Option QueryTree → List (List ℕ)
names_if None = []
names_if (Some query) = result_names query

-- the rows of the text's result
unfoldable pub meaning : List ℕ → View → List (List Value)
meaning text view = meaning_if (query_in text) view

-- the text is a query of the language, whose names are known
unfoldable pub is_accepted : List ℕ → Bool
is_accepted text = is_query (query_in text)

-- the text names an evented table
unfoldable pub names_evented : List ℕ → Bool
names_evented text = is_evented_if (query_in text)

-- the text names this table
unfoldable pub names_table : List ℕ → ℕ → Bool
names_table text table = has_table_if (query_in text) table

-- the names of the columns of the query's result
unfoldable pub names_of : List ℕ → List (List ℕ)
names_of text = names_if (query_in text)
