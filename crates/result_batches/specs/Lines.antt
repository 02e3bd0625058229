-- The result lines of a batch.
use Rattle.std.specs.Prelude.{◌≡◌, ℕ, if◌then◌else◌, List, [], ◌∷◌, ◌++◌, map, flat_map, bytes_eq, codes}
use Rattle.std.specs.List.{list_any}
use Rattle.std.specs.Fmt.{decimal, signed_decimal}
use Rattle.calendar_text.specs.Calendar.{IsCalendarText}
use Rattle.osq_value.specs.declared.value.Value.{Value}
use Rattle.osq_value.specs.declared.value.Value.TheVariants.{Null, Int, Text}
use Rattle.pack_rules.specs.declared.schedule.Mode.{Mode}
use Rattle.pack_rules.specs.declared.schedule.Mode.TheVariants.{Evented, Snapshot}
use Rattle.pack_rules.specs.declared.schedule.Form.{Form}
use Rattle.pack_rules.specs.declared.schedule.Form.TheVariants as form
use Rattle.entry_model.specs.declared.entry.Batch.{Batch}
use Rattle.result_batches.specs.Json.{quoted, joined, array}

-- a value as a text: Null as the empty one
abbrev pub value_text : Value → List ℕ
value_text Null = []
value_text (Int n) = signed_decimal n
value_text (Text text) = text

-- a column's name and its value
abbrev pub member : List ℕ → Value → List ℕ
member name value = quoted name ++ 58 ∷ quoted (value_text value)

-- the columns in order, and of equal names the last alone
abbrev pub members : List (List ℕ) → List Value → List (List ℕ)
members [] row = []
members (name ∷ names) [] = []
members (name ∷ names) (value ∷ row) =
    if list_any (bytes_eq name) names then members names row else member name value ∷ members names row

-- the object of a row
abbrev pub object : List (List ℕ) → List Value → List ℕ
object names row = 123 ∷ (joined (members names row) ++ 125 ∷ [])

abbrev pub objects : List (List ℕ) → List (List Value) → List (List ℕ)
objects names rows = map (object names) rows

-- what each line of a batch begins with
abbrev pub head_text : List ℕ → List ℕ → Batch → List ℕ
head_text host calendar batch =
    codes "{\"name\":" ++ quoted batch.query.name ++ codes ",\"hostIdentifier\":" ++ quoted host ++ codes ",\"calendarTime\":" ++ quoted calendar
    ++ codes ",\"unixTime\":" ++ decimal batch.moment ++ codes ",\"batch\":" ++ decimal batch.number

-- the end of each line of a batch: what decorates it, before the brace that closes it
abbrev pub end_text : List ℕ → List ℕ
end_text decoration = decoration ++ codes "}\n"

-- the line of an added row's object
abbrev pub added_line : List ℕ → List ℕ → List ℕ → List ℕ
added_line head decoration row = head ++ codes ",\"action\":\"added\",\"columns\":" ++ row ++ end_text decoration

-- a line for each object
abbrev pub added_lines : List ℕ → List ℕ → List (List ℕ) → List ℕ
added_lines head decoration rows = flat_map (added_line head decoration) rows

-- one line with the objects that were added
abbrev pub difference_text : List ℕ → List ℕ → List (List ℕ) → List ℕ
difference_text head decoration rows = head ++ codes ",\"diffResults\":{\"added\":" ++ array rows ++ codes ",\"removed\":[]}" ++ end_text decoration

-- the same, where there are some
abbrev pub difference_line : List ℕ → List ℕ → List (List ℕ) → List ℕ
difference_line head decoration [] = []
difference_line head decoration (row ∷ rows) = difference_text head decoration (row ∷ rows)

-- one line with all objects
abbrev pub snapshot_line : List ℕ → List ℕ → List (List ℕ) → List ℕ
snapshot_line head decoration rows = head ++ codes ",\"action\":\"snapshot\",\"snapshot\":" ++ array rows ++ end_text decoration

-- the lines by mode and form
abbrev pub lines_text : Mode → Form → List ℕ → List ℕ → List (List ℕ) → List ℕ
lines_text Evented form.Event head decoration rows = added_lines head decoration rows
lines_text Evented form.Batch head decoration rows = difference_line head decoration rows
lines_text Snapshot form.Event head decoration rows = snapshot_line head decoration rows
lines_text Snapshot form.Batch head decoration rows = snapshot_line head decoration rows

-- these are the lines of a batch in a form, each with this decoration. Its moment is shown at UTC
pub record AreLines (form : Form) (host : List ℕ) (names : List (List ℕ)) (decoration : List ℕ) (batch : Batch) (lines : List ℕ) : Type 0 where
  pub calendar : List ℕ
  pub shown : IsCalendarText batch.moment calendar
  pub text : lines ≡ lines_text batch.query.mode form (head_text host calendar batch) decoration (objects names batch.rows)

-- these are the lines of a batch of an evented query, a line for each row
pub record AreAddedLines (host : List ℕ) (names : List (List ℕ)) (decoration : List ℕ) (batch : Batch) (lines : List ℕ) : Type 0 where
  pub calendar : List ℕ
  pub shown : IsCalendarText batch.moment calendar
  pub text : lines ≡ added_lines (head_text host calendar batch) decoration (objects names batch.rows)
