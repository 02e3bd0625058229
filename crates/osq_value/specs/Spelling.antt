-- Whole numbers as texts spell them.
use Rattle.std.specs.Prelude.{ℕ, ◌+◌, ◌-◌, ◌*◌, ◌^◌, ◌==◌, ◌&&◌, if◌then◌else◌, nat_le, nat_lt, Bool, List, [], ◌∷◌, length, ℤ, pos, neg_ℤ, Option, Some, None}
use Rattle.std.specs.List.{list_all}

abbrev pub is_digit : ℕ → Bool
is_digit byte = nat_le 48 byte && nat_le byte 57

-- one decimal digit or more, and nothing else
abbrev pub is_numeral : List ℕ → Bool
is_numeral text = nat_le 1 (length text) && list_all is_digit text

-- the number that digits spell behind those of another
abbrev pub value_from : ℕ → List ℕ → ℕ
value_from front [] = front
value_from front (byte ∷ rest) = value_from (10 * front + (byte - 48)) rest

abbrev pub value_of : List ℕ → ℕ
value_of digits = value_from 0 digits

-- the number of a numeral, where it is below a bound
abbrev pub number_below : ℕ → List ℕ → Option ℕ
number_below bound text = if is_numeral text && nat_lt (value_of text) bound then Some (value_of text) else None

abbrev pub positive_of : List ℕ → Option ℤ
positive_of digits = if is_numeral digits && nat_lt (value_of digits) (2 ^ 63) then Some (pos (value_of digits)) else None

abbrev pub negative_of : List ℕ → Option ℤ
negative_of digits = if is_numeral digits && nat_le (value_of digits) (2 ^ 63) then Some (neg_ℤ (pos (value_of digits))) else None

-- an optional sign, then a numeral, within 64 bits
unfoldable pub int_of : List ℕ → Option ℤ
int_of [] = None
int_of (byte ∷ rest) = if byte == 45 then negative_of rest else (if byte == 43 then positive_of rest else positive_of (byte ∷ rest))
