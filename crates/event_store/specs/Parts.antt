-- Rows of a table in parts.
use Rattle.std.specs.Prelude.{ℕ, ◌<◌, ◌/◌, ◌%◌, List, [], length, map, get_or}
use Rattle.std.specs.List.{range_with_len}
use Rattle.osq_value.specs.declared.value.Value.{Value}

pub record Parted : Type 0 where
  pub parts : List (List (List Value))
  pub count : ℕ  -- of all rows

-- the row at a place stands in the part at the 64th of that place
abbrev pub row_at : Parted → ℕ → List Value
row_at rows place = get_or (get_or rows.parts (place / 64) []) (place % 64) []

abbrev pub rows_of : Parted → List (List Value)
rows_of rows = map (row_at rows) (range_with_len 0 rows.count)

-- each row stands where it is looked for
abbrev pub HasAll : Parted → Type 0
HasAll rows = (place : ℕ) → place < rows.count → place % 64 < length (get_or rows.parts (place / 64) [])
