-- A value as a whole number, and as a text.
use Rattle.std.specs.Prelude.{ℕ, ◌-◌, ◌^◌, ◌==◌, ◌||◌, ◌&&◌, if◌then◌else◌, nat_le, min, Bool, List, [], ◌∷◌, ℤ, pos, negsuc, neg_ℤ}
use Rattle.std.specs.Fmt.{signed_decimal}
use Rattle.osq_value.specs.declared.value.Value.{Value}
use Rattle.osq_value.specs.declared.value.Value.TheVariants.{Null, Int, Text}
use Rattle.osq_value.specs.Spelling.{is_digit, value_of}

-- a space, or a tab, line feed, vertical tab, form feed or carriage return
abbrev pub is_blank : ℕ → Bool
is_blank byte = byte == 32 || (nat_le 9 byte && nat_le byte 13)

-- a text from its first byte that is no blank
abbrev pub behind_blanks : List ℕ → List ℕ
behind_blanks [] = []
behind_blanks (byte ∷ rest) = if is_blank byte then behind_blanks rest else byte ∷ rest

-- the digits before the first byte that is none
abbrev pub front_digits : List ℕ → List ℕ
front_digits [] = []
front_digits (byte ∷ rest) = if is_digit byte then byte ∷ front_digits rest else []

-- the number of the digits at the front, which is 0 where there is none
abbrev pub front_value : List ℕ → ℕ
front_value text = value_of (front_digits text)

-- the number of an optional sign and the digits behind it
abbrev pub signed_front : List ℕ → ℤ
signed_front [] = pos 0
signed_front (byte ∷ rest) =
    if byte == 45 then neg_ℤ (pos (front_value rest)) else (if byte == 43 then pos (front_value rest) else pos (front_value (byte ∷ rest)))

-- the number of 64 bits that is nearest
abbrev pub nearest : ℤ → ℤ
nearest (pos n) = pos (min n (2 ^ 63 - 1))
nearest (negsuc n) = negsuc (min n (2 ^ 63 - 1))

-- the number of the longest front of the form blanks, optional sign, digits
unfoldable pub number_of : List ℕ → ℤ
number_of text = nearest (signed_front (behind_blanks text))

abbrev pub cast_int_of : Value → Value
cast_int_of Null = Null
cast_int_of (Int n) = Int n
cast_int_of (Text s) = Int (number_of s)

abbrev pub cast_text_of : Value → Value
cast_text_of Null = Null
cast_text_of (Int n) = Text (signed_decimal n)
cast_text_of (Text s) = Text s
