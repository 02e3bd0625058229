-- Texts and numbers, as values of options.
use Rattle.std.specs.Prelude.{ℕ, ◌==◌, ◌&&◌, not, nat_le, Bool, false, if◌then◌else◌, List, [], ◌∷◌, length, Option, None, Some}
use Rattle.osq_value.specs.Spelling.{is_numeral, value_of}

-- 1 to 19 digits, which may begin with zeros
abbrev pub is_number : List ℕ → Bool
is_number text = is_numeral text && nat_le (length text) 19

-- the number that a text spells, where it lies between these two
unfoldable pub number_in : ℕ → ℕ → List ℕ → Option ℕ
number_in least most text =
    if is_number text && nat_le least (value_of text) && nat_le (value_of text) most then Some (value_of text) else None

-- at least one byte, and no dash at its front
abbrev pub is_text : List ℕ → Bool
is_text [] = false
is_text (b ∷ bs) = not (b == 45)
