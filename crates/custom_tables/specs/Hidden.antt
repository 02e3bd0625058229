-- The hidden columns of tables, one for each call, and their values.
use Rattle.std.specs.Prelude.{ℕ, ◌+◌, Bool, true, if◌then◌else◌, List, [], ◌∷◌, ◌++◌, flat_map, map, position, slice_get, Option, None}
use Rattle.std.specs.Option.{is_some, option_and_then, unwrap_or}
use Rattle.osq_value.specs.declared.value.Value.{Value}
use Rattle.osq_value.specs.declared.value.Value.TheVariants.{Null}
use Rattle.sql_query.specs.declared.derived.Derived.{Derived}
use Rattle.sql_query.specs.declared.query.SourceColumn.{SourceColumn}
use Rattle.sql_scope.specs.Spelling.{same_name}
use Rattle.custom_tables.specs.declared.asked.Asked.{Asked}
use Rattle.custom_tables.specs.Matching.{match_value}
use Rattle.custom_tables.specs.Patterns.{pattern_in}
use Rattle.custom_tables.specs.Reading.{call_name}

-- the place of the first column of that name
abbrev pub column_place : List SourceColumn → List ℕ → Option ℕ
column_place columns name = position (λ (c : SourceColumn). same_name c.name name) columns

abbrev pub has_column : List SourceColumn → List ℕ → Bool
has_column columns name = is_some (column_place columns name)

-- the hidden column of the call of that number
abbrev pub hidden_at : ℕ → SourceColumn
hidden_at number = record { name = call_name number; affinity = None; hidden = true }

-- a column for each call of one of these columns, where the first call has that number
abbrev pub hidden_from : List SourceColumn → ℕ → List Asked → List SourceColumn
hidden_from columns number [] = []
hidden_from columns number (call ∷ calls) = if has_column columns call.column then hidden_at number ∷ hidden_from columns (number + 1) calls else hidden_from columns (number + 1) calls

abbrev pub with_hidden : List Asked → Derived → Derived
with_hidden calls table = record { name = table.name; columns = table.columns ++ hidden_from table.columns 1 calls }

-- the value of the first column of that name in a row
abbrev pub value_named : List SourceColumn → List ℕ → List Value → Value
value_named columns name row = unwrap_or (option_and_then (slice_get row) (column_place columns name)) Null

-- the value of a call's hidden column in a row, where the call's column is one of these
abbrev pub call_value : List SourceColumn → Asked → List Value → List Value
call_value columns call row = if has_column columns call.column then match_value (pattern_in call.pattern) call.group (value_named columns call.column row) ∷ [] else []

-- the values of the hidden columns of a row
abbrev pub hidden_values : List SourceColumn → List Asked → List Value → List Value
hidden_values columns calls row = flat_map (λ (call : Asked). call_value columns call row) calls

abbrev pub rows_with_hidden : List SourceColumn → List Asked → List (List Value) → List (List Value)
rows_with_hidden columns calls rows = map (λ (row : List Value). row ++ hidden_values columns calls row) rows
