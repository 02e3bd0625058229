-- For proofs of the code's steps, and no part of the meaning: what the tokens of a line tell.
use Rattle.std.specs.Prelude.{◌≡◌, List, Option, Some, None, option_and_then, Result, Ok, Err}
use Rattle.json.specs.Json.{if_last, value}
use Rattle.json.specs.Token.{Token}
use Rattle.serde_json.specs.Data.{Data, null, boolean, number, string, array, object, no_items, no_members}
use Rattle.serde_json.specs.Read.{max_depth, of_json}
use Rattle.serde_json.specs.View.{number_view}
use Rattle.change_records.specs.declared.error.JsonLineError.{JsonLineError}
use Rattle.change_records.specs.declared.error.JsonLineError.TheVariants as fault
use Rattle.change_records.specs.declared.token.Shallow.{Shallow}
use Rattle.change_records.specs.declared.token.Shallow.TheVariants as shallow

-- a value without what lies within it
abbrev pub surface : Data → Data
surface null = null
surface (boolean b) = boolean b
surface (number n) = number n
surface (string s) = string s
surface (array _) = array no_items
surface (object _) = object no_members

abbrev pub shallow_view : Shallow → Data
shallow_view shallow.Null = null
shallow_view (shallow.Bool b) = boolean b
shallow_view (shallow.Number n) = number (number_view n)
shallow_view (shallow.Text s) = string s.now
shallow_view shallow.Array = array no_items
shallow_view shallow.Object = object no_members

-- the value that these tokens are
abbrev pub data_of : List Token → Option Data
data_of tokens = option_and_then of_json (option_and_then (λ p. if_last p.0 p.1) (value max_depth tokens))

-- what a reader of a line's tokens answers, where memory isn't wanting
abbrev pub ReadsTokens : {X : Type 0} → (Data → Option X) → List Token → Result X JsonLineError → Type 0
ReadsTokens found tokens (Ok x) = (line : Data) × (data_of tokens ≡ Some line) × (found line ≡ Some x)
ReadsTokens found tokens (Err fault.BadLine) = (line : Data) → data_of tokens ≡ Some line → found line ≡ None
ReadsTokens found tokens (Err fault.NoMemory) = Unit {0}
