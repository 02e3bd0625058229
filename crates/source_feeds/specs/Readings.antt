-- Which readings a state may append.
use Rattle.std.specs.Prelude.{◌≡◌, ℕ, true, All, List, length}
use Rattle.osq_value.specs.declared.reading.Reading.{Reading}
use Rattle.osq_value.specs.declared.reading.Reading.TheVariants.{Events, Table}
use Rattle.osq_value.specs.declared.value.Value.{Value}
use Rattle.entry_model.specs.Legal.{IsEvent, width_of}
use Rattle.entry_model.specs.Views.{is_recorded_table}

-- each row has this many columns
abbrev pub AreWide : ℕ → List (List Value) → Type 0
AreWide width rows = All (λ (row : List Value). length row ≡ width) rows

-- its events are of evented tables, and its table is recorded, each with the columns of its table
abbrev pub IsReading : Reading → Type 0
IsReading (Events taken events skipped) = All IsEvent events
IsReading (Table taken table rows) = (is_recorded_table table.0 ≡ true) × AreWide (width_of table.0) rows
