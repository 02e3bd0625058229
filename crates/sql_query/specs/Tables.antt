-- The tables of the catalogue and those that stand beside it, by their numbers.
use Rattle.std.specs.Prelude.{ℕ, ◌-◌, nat_le, if◌then◌else◌, List, map, slice_get, Option, None}
use Rattle.std.specs.Option.{option_map_or}
use Rattle.osq_value.specs.Catalogue.{columns_of, table_name}
use Rattle.sql_query.specs.declared.derived.Derived.{Derived}
use Rattle.sql_query.specs.declared.query.SourceColumn.{SourceColumn}
use Rattle.sql_query.specs.Resolved.{source_column}

-- the number of the first derived table, which no table of the catalogue has
abbrev pub FIRST_DERIVED : ℕ
FIRST_DERIVED = 100

-- the derived table of that number
unfoldable pub derived_at : List Derived → ℕ → Option Derived
derived_at derived id = if nat_le FIRST_DERIVED id then slice_get derived (id - FIRST_DERIVED) else None

-- the columns of the table of that number, and its name; none where there is no such table
unfoldable pub columns_at : List Derived → ℕ → List SourceColumn
columns_at derived id = option_map_or (λ (found : Derived). found.columns) (derived_at derived id) (map source_column (columns_of id))

unfoldable pub name_at : List Derived → ℕ → List ℕ
name_at derived id = option_map_or (λ (found : Derived). found.name) (derived_at derived id) (table_name id)
