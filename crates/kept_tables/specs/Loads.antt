-- The values that parts of them make.
use Rattle.std.specs.Prelude.{ℕ, ◌==◌, nat_lt, if◌then◌else◌, List, [], ◌∷◌, map, filter, filter_map, flat_map, slice_index, zip, Option, Some, None, option_and_then}
use Rattle.std.specs.List.{list_any}
use Rattle.std.specs.List.Sorted.{IsNonDecreasingBy, IsPermutation}
use Rattle.osq_value.specs.declared.value.TableId.{TableId}
use Rattle.osq_value.specs.declared.value.Value.{Value}
use Rattle.entry_model.specs.declared.restored.Live.{Live}
use Rattle.entry_model.specs.declared.restored.SetTable.{SetTable}
use Rattle.entry_model.specs.Summary.{set_table, recorded_tables}
use Rattle.entry_model.specs.Values.{is_above}
use Rattle.entry_model.specs.Views.{is_recorded_table, is_evented_table}
use Rattle.kept_tables.specs.declared.live.LivePart.{LivePart}
use Rattle.kept_tables.specs.Columns.{byte_at}

-- the recorded table whose number stands first
abbrev pub recorded_at : List Value → Option ℕ
recorded_at row = option_and_then (λ n. if is_recorded_table n then Some n else None) (byte_at row 0)

-- the evented one
abbrev pub evented_at : List Value → Option ℕ
evented_at row = option_and_then (λ n. if is_evented_table n then Some n else None) (byte_at row 0)

-- the rows of a part, if it is one of this table
abbrev pub rows_from : ℕ → SetTable → List (List Value)
rows_from table part = if part.table.0 == table then part.rows else []

-- the rows of a table, if it has a part
abbrev pub rows_in : ℕ → List SetTable → Option (List (List Value))
rows_in table parts = if list_any (λ (part : SetTable). part.table.0 == table) parts then Some (flat_map (rows_from table) parts) else None

abbrev pub tables_in : List SetTable → List SetTable
tables_in parts = filter_map (λ table. set_table table (rows_in table parts)) recorded_tables

-- the event of this number and this row
abbrev pub event_of : TableId → ℕ → ℕ × List Value → Live
event_of table moment each = record { number = each.0; table = table; moment = moment; row = each.1 }

-- the events of a part
abbrev pub events_of : LivePart → List Live
events_of part = map (event_of part.table part.moment) (zip part.numbers part.rows)

-- the events of these parts that are not gone, in the order of the parts
abbrev pub events_in : List ℕ → List LivePart → List Live
events_in floors parts = filter (is_above (slice_index floors)) (flat_map events_of parts)

-- an event above this number
abbrev pub above : ℕ → Live → List Live
above floor event = if nat_lt floor event.number then event ∷ [] else []

-- these events by their numbers
pub record IsByNumber (events live : List Live) : Type 0 where
  pub same : IsPermutation events live
  pub rising : IsNonDecreasingBy (λ (event : Live). event.number) live
