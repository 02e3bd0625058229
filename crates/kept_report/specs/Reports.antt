-- The lines of a kept list's values.
use Rattle.std.specs.Prelude.{◌≡◌, ℕ, List, ◌++◌, codes, flat_map, slice_index}
use Rattle.std.specs.Fmt.{decimal}
use Rattle.osq_value.specs.declared.value.TheConstants.TableId.{PROCESS_EVENTS, SOCKET_EVENTS, FILE_EVENTS}
use Rattle.entry_model.specs.declared.restored.Restored.{Restored}
use Rattle.entry_model.specs.declared.restored.Run.{Run}
use Rattle.kept_report.specs.Ordered.{IsOrdered, mode_word}

-- a label and a number
unfoldable pub field_line : List ℕ → ℕ → List ℕ
field_line label number = label ++ decimal number ++ codes "\n"

-- a line for each evented table: up to which number its events are gone
unfoldable pub floors_text : List ℕ → List ℕ
floors_text floors =
    field_line (codes "floor process_events ") (slice_index floors PROCESS_EVENTS.0) ++ field_line (codes "floor socket_events ") (slice_index floors SOCKET_EVENTS.0)
    ++ field_line (codes "floor file_events ") (slice_index floors FILE_EVENTS.0)

-- what is counted, and between that the floors
unfoldable pub counts_text : Restored → List ℕ
counts_text values =
    field_line (codes "sessions ") values.sessions ++ field_line (codes "events ") values.last
    ++ floors_text values.floors ++ field_line (codes "batches ") values.batches ++ field_line (codes "acknowledged ") values.acked

-- `query NAME MODE cursor HI batch NUMBER moment M`
abbrev pub run_line : Run → List ℕ
run_line run =
    codes "query " ++ run.key.name ++ codes " " ++ mode_word run.key.mode ++ codes " cursor " ++ decimal run.hi ++ codes " batch " ++ decimal run.number
    ++ codes " moment " ++ decimal run.moment ++ codes "\n"

abbrev pub run_lines : List Run → List ℕ
run_lines runs = flat_map run_line runs

-- the text of these values
pub record IsReport (values : Restored) (text : List ℕ) : Type 0 where
  pub runs : List Run
  pub ordered : IsOrdered values.runs runs
  pub are : text ≡ counts_text values ++ run_lines runs
