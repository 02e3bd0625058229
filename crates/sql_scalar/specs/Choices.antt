-- Functions that look at kinds, at Null, and at one number.
use Rattle.std.specs.Prelude.{pos, unsigned_abs, if◌then◌else◌, List, [], ◌∷◌, codes}
use Rattle.std.specs.Ordering.{is_eq}
use Rattle.osq_value.specs.declared.value.Value.{Value}
use Rattle.osq_value.specs.declared.value.Value.TheVariants.{Null, Int, Text}
use Rattle.osq_value.specs.Order.{order_of}
use Rattle.sql_scalar.specs.Arithmetic.{on_number, whole, within}

abbrev pub abs_of : Value → Value
abs_of value = on_number (λ n. within (pos (unsigned_abs n))) (whole value)

abbrev pub typeof_of : Value → Value
typeof_of Null = Text (codes "null")
typeof_of (Int n) = Text (codes "integer")
typeof_of (Text s) = Text (codes "text")

-- the first that isn't Null, else Null
abbrev pub first_known : List Value → Value
first_known [] = Null
first_known (Null ∷ rest) = first_known rest
first_known (Int n ∷ rest) = Int n
first_known (Text s ∷ rest) = Text s

-- Null where both are equal values, else the first
abbrev pub nullif_of : Value → Value → Value
nullif_of x y = if is_eq (order_of x y) then Null else x
