-- The rows that a custom table holds.
use Rattle.std.specs.Prelude.{ℕ, ◌≡◌, ◌-◌, List, length, drop}
use Rattle.std.specs.List.{filter_map}
use Rattle.osq_value.specs.declared.value.Value.{Value}
use Rattle.publisher_core.specs.declared.record.Record.{Record}
use Rattle.custom_tables.specs.declared.rule.Rule.{Rule}
use Rattle.custom_tables.specs.Rows.{row_of_record}

-- the last so many
abbrev pub last_of : {X : Type 0} → ℕ → List X → List X
last_of count xs = drop (length xs - count) xs

-- how many rows came, and the last of them
pub record Held : Type 0 where
  pub last : ℕ
  pub rows : List (List Value)

-- what is held of rows that came
abbrev pub held_of : ℕ → List (List Value) → Held
held_of max rows = record { last = length rows; rows = last_of max rows }

-- the held rows numbered above a cursor, and how many numbers above it aren't held
abbrev pub rows_after : Held → ℕ → List (List Value)
rows_after held cursor = drop (cursor - (held.last - length held.rows)) held.rows

abbrev pub lost_after : Held → ℕ → ℕ
lost_after held cursor = (held.last - length held.rows) - cursor

-- a custom table: its rule, the most rows that it holds, and those that it holds
pub record Custom : Type 0 where
  pub rule : Rule
  pub max : ℕ
  pub held : Held

-- the rows that records give by a rule
abbrev pub rows_of : Rule → List Record → List (List Value)
rows_of rule records = filter_map (row_of_record rule) records

-- the table holds what it holds of these records
abbrev pub HasFed : Custom → List Record → Type 0
HasFed table records = table.held ≡ held_of table.max (rows_of table.rule records)
