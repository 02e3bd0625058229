-- `instr` and `replace`.
use Rattle.std.specs.Prelude.{ℕ, zero, suc, ◌+◌, ◌-◌, ◌==◌, ◌&&◌, if◌then◌else◌, Bool, true, false, Option, Some, None, List, [], ◌∷◌, ◌++◌, length, pos}
use Rattle.std.specs.Str.{chars}
use Rattle.osq_value.specs.declared.value.Value.{Value}
use Rattle.osq_value.specs.declared.value.Value.TheVariants.{Null, Int, Text}
use Rattle.sql_scalar.specs.Texts.{on_texts, text_of}

-- a list begins with another one
abbrev pub begins : List ℕ → List ℕ → Bool
begins [] whole = true
begins (wanted ∷ others) [] = false
begins (wanted ∷ others) (found ∷ rest) = wanted == found && begins others rest

-- the position of the first place at which a list begins with another one, 0 where there is none
abbrev pub first_position : List ℕ → ℕ → List ℕ → ℕ
first_position wanted position [] = if begins wanted [] then position else 0
first_position wanted position (item ∷ rest) = if begins wanted (item ∷ rest) then position else first_position wanted (position + 1) rest

-- counted in characters, from 1
abbrev pub instr_of : Value → Value → Value
instr_of x y = on_texts (λ text wanted. Int (pos (first_position (chars wanted) 1 (chars text)))) (text_of x) (text_of y)

-- a text with another one in place of each one that is wanted, from the left, where so many bytes of the last one are still to be passed
abbrev pub replaced : List ℕ → List ℕ → ℕ → List ℕ → List ℕ
replaced wanted other left [] = []
replaced wanted other zero (byte ∷ rest) =
    if begins wanted (byte ∷ rest) then other ++ replaced wanted other (length wanted - 1) rest else byte ∷ replaced wanted other 0 rest
replaced wanted other (suc left) (byte ∷ rest) = replaced wanted other left rest

-- an empty text that is wanted changes nothing, whatever stands in its place
abbrev pub replace_in : List ℕ → List ℕ → Option (List ℕ) → Value
replace_in text [] None = Text text
replace_in text [] (Some other) = Text text
replace_in text (byte ∷ rest) None = Null
replace_in text (byte ∷ rest) (Some other) = Text (replaced (byte ∷ rest) other 0 text)

abbrev pub replace_of : Value → Value → Value → Value
replace_of x y z = on_texts (λ text wanted. replace_in text wanted (text_of z)) (text_of x) (text_of y)
