-- The records of a source, and what each gives.
use Rattle.std.specs.Prelude.{◌≡◌, ◌⊎◌, ℕ, ◌+◌, ◌≤◌, List, [], ◌∷◌, ◌++◌, length, flat_map, Option, Some, None}
use Rattle.std.specs.Str.{IsUtf8}
use Rattle.serde_json.specs.Data.{Data}
use Rattle.serde_json.specs.Read.{read}
use Rattle.osq_value.specs.declared.reading.Category.{Category}
use Rattle.osq_value.specs.declared.reading.Reading.TheVariants as reading
use Rattle.osq_value.specs.declared.value.Event.{Event}
use Rattle.osq_value.specs.declared.value.Value.{Value}
use Rattle.osq_value.specs.declared.value.TableId.{TableId}
use Rattle.audit_records.specs.Events.{event_of}
use Rattle.change_records.specs.declared.change.Change.{Change}
use Rattle.record_lines.specs.Limits.{LINE_LIMIT}
use Rattle.record_lines.specs.Lines.{HasNoFeed}
use Rattle.change_records.specs.Changes.{change_of}
use Rattle.change_records.specs.Rows.{table_of}
use Rattle.change_records.specs.Events.{IsEventOf}
use Rattle.publisher_core.specs.declared.record.Record.{Record}
use Rattle.publisher_core.specs.declared.record.Record.TheVariants as item
use Rattle.publisher_core.specs.declared.record.Gain.{Gain}
use Rattle.publisher_core.specs.declared.record.Gain.TheVariants as gain
use Rattle.publisher_core.specs.declared.record.ReadRecord.{ReadRecord}

-- a table line has at most so many bytes; a longer one is skipped
abbrev pub TABLE_LIMIT : ℕ
TABLE_LIMIT = 16777216

-- the event of a record, or none
abbrev pub IsEventOfRecord : List Category → Record → Option Event → Type 0
IsEventOfRecord paths (item.Group group) event = event ≡ event_of group
IsEventOfRecord paths (item.Change change) event = IsEventOf change paths event

-- a line that is skipped and counted
abbrev pub skipped_line : Gain
skipped_line = gain.Event None 1

-- the line is that of a change
pub record IsChangeLine (line : List ℕ) (change : Change) : Type 0 where
  pub short : length line ≤ LINE_LIMIT
  pub text : IsUtf8 line
  pub value : Data
  pub json : read line ≡ Some value
  pub form : change_of value ≡ Some change

-- a change gives its event or none; every other line is skipped
abbrev pub ChangeGives : List Category → List ℕ → Gain → Type 0
ChangeGives paths line given =
    ((change : Change) × (event : Option Event) × IsChangeLine line change × IsEventOf change paths event × (given ≡ gain.Event event 0))
    ⊎ (((change : Change) → IsChangeLine line change → ⊥) × (given ≡ skipped_line))

-- the line is that of a recorded table
pub record IsTableLine (line : List ℕ) (table : TableId) (rows : List (List Value)) : Type 0 where
  pub short : length line ≤ TABLE_LIMIT
  pub text : IsUtf8 line
  pub value : Data
  pub json : read line ≡ Some value
  pub offset : ℕ  -- which the publisher sets
  pub form : table_of value ≡ Some (reading.Table offset table rows)

-- it gives the table; every other line is skipped
abbrev pub TableGives : List ℕ → Gain → Type 0
TableGives line given =
    ((table : TableId) × (rows : List (List Value)) × IsTableLine line table rows × (given ≡ gain.Table table rows))
    ⊎ (((table : TableId) → (rows : List (List Value)) → IsTableLine line table rows → ⊥) × (given ≡ skipped_line))

-- each line with its line feed
abbrev pub ended : List (List ℕ) → List ℕ
ended lines = flat_map (λ line. line ++ 10 ∷ []) lines

-- no line has a line feed in it
abbrev pub HaveNoFeed : List (List ℕ) → Type 0
HaveNoFeed [] = Unit {0}
HaveNoFeed (line ∷ lines) = HasNoFeed line × HaveNoFeed lines

-- what lines give one by one, where the first begins at this offset
abbrev pub LinesGive : (List ℕ → Gain → Type 0) → ℕ → List (List ℕ) → List ReadRecord → Type 0
LinesGive gives start [] [] = Unit {0}
LinesGive gives start [] (piece ∷ pieces) = ⊥
LinesGive gives start (line ∷ lines) [] = ⊥
LinesGive gives start (line ∷ lines) (piece ∷ pieces) =
    gives line piece.gain × (piece.end ≡ start + length line + 1) × LinesGive gives (start + length line + 1) lines pieces
