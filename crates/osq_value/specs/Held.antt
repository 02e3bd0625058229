-- The bytes of a text, wherever it lies.
use Rattle.std.specs.Prelude.{ℕ, List}
use Rattle.std.specs.String.{string_bytes}
use Rattle.osq_value.specs.declared.text.Held.{Held}
use Rattle.osq_value.specs.declared.text.Held.TheVariants as held

abbrev pub held_bytes : Held → List ℕ
held_bytes (held.Short text) = text.bytes
held_bytes (held.Long text) = string_bytes text
