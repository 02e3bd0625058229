-- Readings of a source, and the entries that they become.
use Rattle.std.specs.Prelude.{◌≡◌, ℕ, ◌+◌, ◌^◌, true, nat_le, nat_lt, if◌then◌else◌, List, length, All, Option, Some, None}
use Rattle.osq_value.specs.declared.reading.Reading.{Reading}
use Rattle.osq_value.specs.declared.reading.Reading.TheVariants.{Events, Table}
use Rattle.entry_model.specs.declared.entry.Entry.{Entry}
use Rattle.entry_model.specs.declared.entry.Entry.TheVariants.{Appended, TableSet}
use Rattle.entry_model.specs.Legal.{IsEvent, width_of}
use Rattle.entry_model.specs.Views.{is_recorded_table}
use Rattle.event_store.specs.Contents.{AreWide}
use Rattle.session_state.specs.declared.state.AppendError.{AppendError}
use Rattle.session_state.specs.declared.state.AppendError.TheVariants.{Backwards, NumbersSpent}

-- its events are of evented tables, and its table is recorded, each with the columns of its table
abbrev pub IsReading : Reading → Type 0
IsReading (Events taken events skipped) = All IsEvent events
IsReading (Table taken table rows) = (is_recorded_table table.0 ≡ true) × AreWide (width_of table.0) rows

-- the entry of a reading of the source
abbrev pub entry_of : List ℕ → ℕ → Reading → Entry
entry_of source moment (Events taken events skipped) = Appended source taken events skipped moment
entry_of source moment (Table taken table rows) = TableSet source table rows taken

-- behind which byte a reading ends
abbrev pub taken_of : Reading → ℕ
taken_of (Events taken events skipped) = taken
taken_of (Table taken table rows) = taken

abbrev pub event_count : Reading → ℕ
event_count (Events taken events skipped) = length events
event_count (Table taken table rows) = 0

-- the offset first, and then the numbers
abbrev pub refusal_by : ℕ → ℕ → ℕ → ℕ → Option AppendError
refusal_by kept last taken events =
    if nat_le taken kept then Some (Backwards kept) else (if nat_lt (2 ^ 62) (last + events) then Some NumbersSpent else None)

abbrev pub refusal_to : ℕ → ℕ → Reading → Option AppendError
refusal_to kept last reading = refusal_by kept last (taken_of reading) (event_count reading)
