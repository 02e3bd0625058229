-- How long a text may be that is made of others.
use Rattle.std.specs.Prelude.{◌≤◌, length}
use Rattle.osq_value.specs.declared.value.Value.{Value}
use Rattle.osq_value.specs.declared.value.Value.TheVariants.{Null, Int, Text}
use Rattle.sql_scalar.specs.declared.texts.TheConstants.{MOST_BYTES}

-- a text has at most so many bytes
abbrev pub IsWithin : Value → Type 0
IsWithin Null = Unit {0}
IsWithin (Int n) = Unit {0}
IsWithin (Text s) = length s ≤ MOST_BYTES
