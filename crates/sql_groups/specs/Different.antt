-- For proofs of the code's steps, and no part of the meaning: the first of rows with equal values of a column, or of some expressions.
use Rattle.std.specs.Prelude.{◌≡◌, ℕ, Bool, if◌then◌else◌, List, [], ◌∷◌, ◌++◌, filter, map}
use Rattle.std.specs.Borrow.{Bor}
use Rattle.std.specs.List.{list_any}
use Rattle.indexmap.specs.IndexSet.{insert_key}
use Rattle.osq_value.specs.declared.value.Value.{Value}
use Rattle.osq_value.specs.contracts.value.ValuePartialEq.TheImpl as equality
use Rattle.sql_query.specs.Exprs.{ExprTree}
use Rattle.sql_meaning.specs.declared.joined.Joined.{Joined}
use Rattle.sql_meaning.specs.Expressions.{value_at}
use Rattle.sql_meaning.specs.Firsts.{firsts_by, same_values}
use Rattle.sql_meaning.specs.Lent.{values_in}
use Rattle.sql_groups.specs.declared.different.FoundKeys.{FoundKeys}
use Rattle.sql_groups.specs.declared.different.FoundRows.{FoundRows}
use Rattle.sql_groups.specs.Kept.{is_kept}
use Rattle.sql_groups.specs.Keys.{key_worths, row_values}

-- the value at a place of a row
abbrev pub held : ℕ → Joined → Value
held place row = value_at (values_in row) place

abbrev pub held_alone : ℕ → Joined → List Value
held_alone place row = held place row ∷ []

-- the first for each value of the rows for which the condition holds
abbrev pub different : ℕ → List ExprTree → List Joined → List Joined
different place condition rows = firsts_by (held_alone place) (filter (is_kept condition) rows)

abbrev pub values_of : FoundRows → List Value
values_of found = map (λ (value : Bor Value). value.now) found.values.keys

abbrev pub equal : Value → Value → Bool
equal left right = equality.eq-value.it left right

-- a row goes behind the others, where no value equals its value
abbrev pub Adds : FoundRows → Joined → Value → FoundRows → Type 0
Adds old row value new =
    (values_of new ≡ insert_key equal (values_of old) value) × (new.rows ≡ (if list_any (equal value) (values_of old) then old.rows else old.rows ++ row ∷ []))

-- what was found of these rows
abbrev pub HasFound : ℕ → List ExprTree → List Joined → FoundRows → Type 0
HasFound place condition rows found = (found.rows ≡ different place condition rows) × (values_of found ≡ map (held place) found.rows)

-- the first for the values of each row for which the condition holds
abbrev pub different_by : List ExprTree → List ExprTree → List Joined → List Joined
different_by exprs condition rows = firsts_by (row_values exprs) (filter (is_kept condition) rows)

abbrev pub keys_of : FoundKeys → List (List Value)
keys_of found = map key_worths found.keys.keys

-- a row goes behind the others, where no row's values equal its values
abbrev pub AddsKey : FoundKeys → Joined → List Value → FoundKeys → Type 0
AddsKey old row key new =
    (keys_of new ≡ insert_key same_values (keys_of old) key) × (new.rows ≡ (if list_any (same_values key) (keys_of old) then old.rows else old.rows ++ row ∷ []))

-- what was found of these rows by expressions
abbrev pub HasFoundKeys : List ExprTree → List ExprTree → List Joined → FoundKeys → Type 0
HasFoundKeys exprs condition rows found = (found.rows ≡ different_by exprs condition rows) × (keys_of found ≡ map (row_values exprs) found.rows)
