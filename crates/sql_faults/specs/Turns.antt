-- For proofs of the recognizer's steps, and no part of what a fault is: one turn of the reading, whatever faults come behind it.
use Rattle.std.specs.Prelude.{◌≡◌, List, Option}
use Rattle.sql_faults.specs.declared.part.Part.{Part}
use Rattle.sql_tokens.specs.declared.token.Token.{Token}
use Rattle.sql_faults.specs.declared.error.ParseError.{ParseError}
use Rattle.sql_faults.specs.declared.recognizer.Turn.{Turn}
use Rattle.sql_faults.specs.declared.recognizer.Turn.TheVariants.{Taken, Stopped}
use Rattle.sql_faults.specs.Reading.{taken, least_from}

abbrev pub Turns : Option ParseError → List Part → Token → Turn → List Part → Type 0
Turns least before t (Taken found) new = (others : List Part → List ParseError) → least_from least (taken before t others) ≡ least_from found (others new)
Turns least before t (Stopped found) new = (others : List Part → List ParseError) → least_from least (taken before t others) ≡ found

abbrev pub fault_of_turn : Turn → Option ParseError
fault_of_turn (Taken found) = found
fault_of_turn (Stopped found) = found
