-- Values that are known.
use Rattle.std.specs.Prelude.{Bool, Option, Some, None, is_some}
use Rattle.osq_value.specs.declared.value.Value.{Value}
use Rattle.osq_value.specs.declared.value.Value.TheVariants.{Null, Int, Text}

-- a value, where it isn't Null
abbrev pub known_of : Value → Option Value
known_of Null = None
known_of (Int n) = Some (Int n)
known_of (Text s) = Some (Text s)

abbrev pub is_known : Value → Bool
is_known value = is_some (known_of value)
