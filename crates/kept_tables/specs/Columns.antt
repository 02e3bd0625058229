-- What stands in the columns of a row.
use Rattle.std.specs.Prelude.{ℕ, pos, negsuc, nat_lt, if◌then◌else◌, List, map, slice_get, Option, Some, None, option_and_then}
use Rattle.result_batches.specs.Json.{array}
use Rattle.osq_value.specs.declared.value.Value.{Value}
use Rattle.osq_value.specs.declared.value.Value.TheVariants.{Null, Int, Text}

-- a number as a column holds it
abbrev pub number : ℕ → Value
number n = Int (pos n)

-- a list as a column holds it, by the texts of its items
abbrev pub list : {T : Type 0} → (T → List ℕ) → List T → Value
list text items = Text (array (map text items))

abbrev pub number_in : Value → Option ℕ
number_in Null = None
number_in (Int (pos n)) = Some n
number_in (Int (negsuc n)) = None
number_in (Text text) = None

abbrev pub text_in : Value → Option (List ℕ)
text_in Null = None
text_in (Int n) = None
text_in (Text text) = Some text

-- the number in this column, if it has one
abbrev pub number_at : List Value → ℕ → Option ℕ
number_at row at = option_and_then number_in (slice_get row at)

abbrev pub byte : ℕ → Option ℕ
byte n = if nat_lt n 256 then Some n else None

-- the number of one byte in this column, if it has one
abbrev pub byte_at : List Value → ℕ → Option ℕ
byte_at row at = option_and_then byte (number_at row at)

-- the text in this column, if it has one
abbrev pub text_at : List Value → ℕ → Option (List ℕ)
text_at row at = option_and_then text_in (slice_get row at)
