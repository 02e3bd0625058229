-- Quoted names that begin with `#` and stand for nothing, where no user's name begins so.
use Rattle.std.specs.Prelude.{ℕ, ◌==◌, ◌&&◌, Bool, false, List, [], ◌∷◌, map, Option, Some, None}
use Rattle.sql_tree.specs.declared.tree.Name.{Name}
use Rattle.sql_tree.specs.Select.{SelectTree}
use Rattle.sql_scope.specs.declared.mention.Mention.{Mention}
use Rattle.sql_scope.specs.declared.mention.Mentioned.{Mentioned}
use Rattle.sql_scope.specs.declared.mention.Mentioned.TheVariants as mentioned
use Rattle.sql_scope.specs.Mentions.{mentions_of_select}
use Rattle.sql_scope.specs.Naming.{meaning_of}
use Rattle.sql_scope.specs.Shown.{Names}
use Rattle.sql_scope.specs.Spelling.{name_text}
use Rattle.sql_query.specs.declared.derived.Derived.{Derived}
use Rattle.sql_names.specs.Kinds.{is_word, names_in, place_if, place_of}
use Rattle.sql_names.specs.Resolve.{names_of_select}

-- the first byte is `#`
abbrev pub begins_by_number : List ℕ → Bool
begins_by_number [] = false
begins_by_number (byte ∷ name) = byte == 35

-- the place of a name without a table: it is quoted, begins with `#`, and is no column and no alias
abbrev pub column_unmeant : Names → Name → Option ℕ
column_unmeant names column = place_if (column.is_quoted && (begins_by_number (name_text names.text column) && is_word (meaning_of names (name_text names.text column)))) (place_of column)

abbrev pub mentioned_unmeant : Names → Mentioned → Option ℕ
mentioned_unmeant names (mentioned.Column None column) = column_unmeant names column
mentioned_unmeant names (mentioned.Column (Some table) column) = None
mentioned_unmeant names (mentioned.Aggregate place fold) = None

-- of each mention of a select, where FROM may mean these derived tables too
unfoldable pub unmeant_numbers : List Derived → List ℕ → SelectTree → List (Option ℕ)
unmeant_numbers derived text select = map (λ (m : Mention). mentioned_unmeant (names_in (names_of_select derived text select) m.clause) m.what) (mentions_of_select select)
