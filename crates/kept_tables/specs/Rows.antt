-- The rows of the values that a load reads, by the columns of the statements that show them.
use Rattle.std.specs.Prelude.{◌≡◌, ℕ, true, ◌<◌, ◌^◌, ◌==◌, if◌then◌else◌, List, [], ◌∷◌, length, map, Option, Some, None}
use Rattle.std.specs.List.{AllByRecursion}
use Rattle.std.specs.Fmt.{decimal}
use Rattle.result_batches.specs.Frames.{json_value}
use Rattle.result_batches.specs.Json.{array}
use Rattle.batch_frames.specs.Texts.{IsHeldValue}
use Rattle.osq_value.specs.declared.value.Value.{Value}
use Rattle.osq_value.specs.declared.value.Value.TheVariants.{Text}
use Rattle.pack_rules.specs.declared.schedule.Mode.{Mode}
use Rattle.pack_rules.specs.declared.schedule.Mode.TheVariants.{Evented, Snapshot}
use Rattle.pack_rules.specs.declared.schedule.QueryKey.{QueryKey}
use Rattle.entry_model.specs.declared.restored.Run.{Run}
use Rattle.entry_model.specs.declared.restored.SetTable.{SetTable}
use Rattle.entry_model.specs.declared.restored.Taken.{Taken}
use Rattle.entry_model.specs.Views.{is_evented_table, is_recorded_table}
use Rattle.kept_tables.specs.declared.live.LivePart.{LivePart}
use Rattle.kept_tables.specs.Columns.{number, number_at, text_at, list}

-- the text of a row, and rows as a column holds them
abbrev pub row_text : List Value → List ℕ
row_text row = array (map json_value row)

abbrev pub rows : List (List Value) → Value
rows held = list row_text held

abbrev pub HoldsRows : List (List Value) → Type 0
HoldsRows held = AllByRecursion (λ (row : List Value). AllByRecursion IsHeldValue row) held

abbrev pub taken_row : Taken → List Value
taken_row taken = Text taken.source ∷ number taken.offset ∷ []

abbrev pub mode_number : Mode → ℕ
mode_number Evented = 0
mode_number Snapshot = 1

abbrev pub mode_in : ℕ → Option Mode
mode_in n = if n == 0 then Some Evented else (if n == 1 then Some Snapshot else None)

-- the first columns have what the query is known by
abbrev pub ShowsKey : List Value → QueryKey → Type 0
ShowsKey row key = (text_at row 0 ≡ Some key.name) × (text_at row 1 ≡ Some key.text) × (number_at row 2 ≡ Some (mode_number key.mode))

abbrev pub run_row : Run → List Value
run_row run =
    Text run.key.name ∷ Text run.key.text ∷ number (mode_number run.key.mode) ∷ number run.number ∷ number run.hi ∷ number run.moment ∷ number run.count ∷ []

-- some rows of a recorded table
abbrev pub set_row : SetTable → List Value
set_row part = number part.table.0 ∷ rows part.rows ∷ []

pub record IsSetPart (part : SetTable) : Type 0 where
  pub recorded : is_recorded_table part.table.0 ≡ true
  pub rows : HoldsRows part.rows

-- some events of an evented table
abbrev pub live_row : LivePart → List Value
live_row part = number part.table.0 ∷ number part.moment ∷ list decimal part.numbers ∷ rows part.rows ∷ []

pub record IsLivePart (part : LivePart) : Type 0 where
  pub evented : is_evented_table part.table.0 ≡ true
  pub numbers : AllByRecursion (λ n. n < 2 ^ 64) part.numbers
  pub rows : HoldsRows part.rows
  pub each : length part.numbers ≡ length part.rows
