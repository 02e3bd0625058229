-- The rows of the recorded tables, from the first one on.
use Rattle.std.specs.Prelude.{ℕ, ◌-◌, List, [], ◌∷◌, set}
use Rattle.osq_value.specs.declared.value.Value.{Value}
use Rattle.entry_model.specs.declared.restored.SetTable.{SetTable}

-- the recorded table has these rows
abbrev pub with_rows : List (List (List Value)) → ℕ → List (List Value) → List (List (List Value))
with_rows tables table rows = set tables (table - 3) rows

-- these tables are set, one after another
abbrev pub with_sets : List (List (List Value)) → List SetTable → List (List (List Value))
with_sets tables [] = tables
with_sets tables (one ∷ rest) = with_sets (with_rows tables one.table.0 one.rows) rest
