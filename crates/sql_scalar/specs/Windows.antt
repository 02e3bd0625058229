-- `substr`: the characters at positions of a window, counted from 1.
use Rattle.std.specs.Prelude.{ℕ, ◌+◌, ◌&&◌, not, if◌then◌else◌, Bool, false, Option, Some, None, List, [], ◌∷◌, length, ℤ, pos, negsuc, ◌+ℤ◌, int_lt}
use Rattle.std.specs.Str.{chars, encode_utf8_all}
use Rattle.osq_value.specs.declared.value.Value.{Value}
use Rattle.osq_value.specs.declared.value.Value.TheVariants.{Null, Text}
use Rattle.sql_scalar.specs.Arithmetic.{whole}
use Rattle.sql_scalar.specs.Texts.{text_of}

-- the items at positions that pass a test, of a list whose first item stands at this position
abbrev pub kept : {X : Type 0} → (ℕ → Bool) → ℕ → List X → List X
kept test position [] = []
kept test position (item ∷ rest) = if test position then item ∷ kept test (position + 1) rest else kept test (position + 1) rest

-- from a position on, and before another one where there is one
abbrev pub inside : ℤ → Option ℤ → ℕ → Bool
inside low None position = not (int_lt (pos position) low)
inside low (Some high) position = not (int_lt (pos position) low) && int_lt (pos position) high

-- no position from this one on lies before the end
abbrev pub is_past : Option ℤ → ℕ → Bool
is_past None position = false
is_past (Some high) position = not (int_lt (pos position) high)

-- a place counted from the front, or a negative one counted from the end of so many characters
abbrev pub place : ℕ → ℤ → ℤ
place count (pos y) = pos y
place count (negsuc y) = pos count +ℤ negsuc y +ℤ pos 1

-- so many characters from a place on, or before it where the number is negative
abbrev pub window : ℤ → ℤ → ℕ → Bool
window p (pos z) = inside p (Some (p +ℤ pos z))
window p (negsuc z) = inside (p +ℤ negsuc z) (Some p)

abbrev pub taken : (ℕ → Bool) → List ℕ → Value
taken test text = Text (encode_utf8_all (kept test 1 (chars text)))

abbrev pub substr_from : Option (List ℕ) → Option ℤ → Value
substr_from None None = Null
substr_from None (Some y) = Null
substr_from (Some text) None = Null
substr_from (Some text) (Some y) = taken (inside (place (length (chars text)) y) None) text

abbrev pub substr_within : Option (List ℕ) → Option ℤ → Option ℤ → Value
substr_within None None None = Null
substr_within None None (Some z) = Null
substr_within None (Some y) None = Null
substr_within None (Some y) (Some z) = Null
substr_within (Some text) None None = Null
substr_within (Some text) None (Some z) = Null
substr_within (Some text) (Some y) None = Null
substr_within (Some text) (Some y) (Some z) = taken (window (place (length (chars text)) y) z) text

-- of two arguments, and of three
abbrev pub substr2_of : Value → Value → Value
substr2_of x y = substr_from (text_of x) (whole y)

abbrev pub substr3_of : Value → Value → Value → Value
substr3_of x y z = substr_within (text_of x) (whole y) (whole z)
