-- What a reader answers.
use Rattle.std.specs.Prelude.{◌≡◌, ℕ, List, Option, Some, None, Result, Ok, Err}
use Rattle.std.specs.Str.{IsUtf8}
use Rattle.serde_json.specs.Data.{Data}
use Rattle.serde_json.specs.Read.{read}
use Rattle.change_records.specs.declared.error.JsonLineError.{JsonLineError}
use Rattle.change_records.specs.declared.error.JsonLineError.TheVariants as fault

-- the value, or that there is none, where memory isn't wanting
abbrev pub Reads : {X : Type 0} → Option X → Result X JsonLineError → Type 0
Reads found (Ok x) = found ≡ Some x
Reads found (Err fault.BadLine) = found ≡ None
Reads found (Err fault.NoMemory) = Unit {0}

-- the same of a line, which is the text of a JSON value
abbrev pub ReadsLine : {X : Type 0} → (Data → Option X) → List ℕ → Result X JsonLineError → Type 0
ReadsLine found text (Ok x) = (line : Data) × IsUtf8 text × (read text ≡ Some line) × (found line ≡ Some x)
ReadsLine found text (Err fault.BadLine) = (line : Data) → IsUtf8 text → read text ≡ Some line → found line ≡ None
ReadsLine found text (Err fault.NoMemory) = Unit {0}
