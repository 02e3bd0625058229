-- Arithmetic on the whole numbers of values. A result outside 64 bits is Null.
use Rattle.std.specs.Prelude.{ℤ, pos, negsuc, neg_ℤ, ◌+ℤ◌, ◌-ℤ◌, ◌*ℤ◌, int_div, int_rem, ◌^◌, nat_lt, if◌then◌else◌, Option, Some, None}
use Rattle.osq_value.specs.declared.value.Value.{Value}
use Rattle.osq_value.specs.declared.value.Value.TheVariants.{Null, Int, Text}
use Rattle.osq_value.specs.Casts.{number_of}
use Rattle.sql_scalar.specs.Truth.{is_zero}

-- the whole number of a value, none for Null
abbrev pub whole : Value → Option ℤ
whole Null = None
whole (Int n) = Some n
whole (Text s) = Some (number_of s)

abbrev pub within : ℤ → Value
within (pos n) = if nat_lt n (2 ^ 63) then Int (pos n) else Null
within (negsuc n) = if nat_lt n (2 ^ 63) then Int (negsuc n) else Null

abbrev pub on_number : (ℤ → Value) → Option ℤ → Value
on_number f None = Null
on_number f (Some n) = f n

abbrev pub on_numbers : (ℤ → ℤ → Value) → Option ℤ → Option ℤ → Value
on_numbers f None None = Null
on_numbers f None (Some n) = Null
on_numbers f (Some m) None = Null
on_numbers f (Some m) (Some n) = f m n

abbrev pub sum_of : Value → Value → Value
sum_of left right = on_numbers (λ m n. within (m +ℤ n)) (whole left) (whole right)

abbrev pub difference_of : Value → Value → Value
difference_of left right = on_numbers (λ m n. within (m -ℤ n)) (whole left) (whole right)

abbrev pub product_of : Value → Value → Value
product_of left right = on_numbers (λ m n. within (m *ℤ n)) (whole left) (whole right)

-- truncated toward zero
abbrev pub quotient_of : Value → Value → Value
quotient_of left right = on_numbers (λ m n. if is_zero n then Null else within (int_div m n)) (whole left) (whole right)

-- with the sign of the left side
abbrev pub remainder_of : Value → Value → Value
remainder_of left right = on_numbers (λ m n. if is_zero n then Null else within (int_rem m n)) (whole left) (whole right)

-- the sign `-`
abbrev pub minus_of : Value → Value
minus_of value = on_number (λ n. within (neg_ℤ n)) (whole value)

-- the sign `+`
abbrev pub plus_of : Value → Value
plus_of value = value
