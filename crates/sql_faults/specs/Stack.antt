-- For proofs of the recognizer's steps, and no part of what a fault is: what is expected, kept on a stack with the next part at its end.
use Rattle.std.specs.Prelude.{◌≡◌, List, [], ◌∷◌, ◌++◌, Option, Some, None, Bool, true, false}
use Rattle.sql_faults.specs.declared.part.Part.{Part}
use Rattle.sql_faults.specs.declared.part.Part.TheVariants.{One}
use Rattle.sql_faults.specs.declared.part.Expected.{Expected}
use Rattle.sql_tokens.specs.declared.token.Token.{Token}
use Rattle.sql_faults.specs.declared.error.ParseError.{ParseError}
use Rattle.sql_faults.specs.Reading.{found}

abbrev pub expects_from : List Part → List Part → List Part
expects_from later [] = later
expects_from later (p ∷ ps) = expects_from (p ∷ later) ps

abbrev pub expects : List Part → List Part
expects = expects_from []

-- an optional part was entered, or passed over
abbrev pub Enters : Option (List Part) → Bool → List Part → List Part → Type 0
Enters (Some inner) true old new = expects new ≡ inner ++ expects old
Enters (Some inner) false old new = ⊥
Enters None true old new = ⊥
Enters None false old new = new ≡ old

-- a token that was expected has one fault at most
abbrev pub head_fault : List ParseError → Option ParseError
head_fault [] = None
head_fault (f ∷ fs) = Some f

abbrev pub found_fault : Expected → Token → Option ParseError
found_fault e t = head_fault (found e t)

-- the token that is expected first, and the rest
abbrev pub Settles : List Part → Option Expected → List Part → Type 0
Settles before None new = before ≡ []
Settles before (Some e) new = before ≡ One e ∷ new

abbrev pub Pops : List Part → Option Part → List Part → Type 0
Pops before None new = before ≡ []
Pops before (Some p) new = before ≡ p ∷ new

-- where a token is expected first, it is taken
abbrev pub TakesFirst : List Part → Option Expected → List Part → Type 0
TakesFirst before answer new = (e : Expected) (others : List Part) → before ≡ One e ∷ others → (answer ≡ Some e) × (new ≡ others)
