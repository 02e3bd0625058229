-- What a text answers.
use Rattle.std.specs.Prelude.{ℕ, if◌then◌else◌, List, Option, Some, None}
use Rattle.osq_value.specs.declared.value.Value.{Value}
use Rattle.sql_meaning.specs.Meaning.{View}
use Rattle.sql_texts.specs.Meaning.{is_accepted, meaning, names_of}

-- the rows of an accepted text over a view, and nothing for every other
abbrev pub answer_of : List ℕ → View → Option (List (List Value))
answer_of text view = if is_accepted text then Some (meaning text view) else None

-- the names of its columns, and nothing for every other
abbrev pub names_in : List ℕ → Option (List (List ℕ))
names_in text = if is_accepted text then Some (names_of text) else None
