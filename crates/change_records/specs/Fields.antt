-- The members of a line's object, as the columns of a row hold them.
use Rattle.std.specs.Prelude.{Option, Some, None, option_map}
use Rattle.serde_json.specs.Data.{Data, null, boolean, number, string, array, object}
use Rattle.serde_json.specs.Find.{as_i64}
use Rattle.osq_value.specs.declared.value.Value.{Value}
use Rattle.osq_value.specs.declared.value.Value.TheVariants.{Null, Int, Text}
use Rattle.osq_value.specs.Spelling.{int_of}

-- a whole number within 64 bits, or a text that spells one; null and what is missing are Null
abbrev pub number_of : Option Data → Option Value
number_of None = Some Null
number_of (Some null) = Some Null
number_of (Some (boolean _)) = None
number_of (Some (number n)) = option_map Int (as_i64 n)
number_of (Some (string s)) = option_map Int (int_of s)
number_of (Some (array _)) = None
number_of (Some (object _)) = None

-- a text; null and what is missing are Null
abbrev pub text_of : Option Data → Option Value
text_of None = Some Null
text_of (Some null) = Some Null
text_of (Some (boolean _)) = None
text_of (Some (number n)) = None
text_of (Some (string s)) = Some (Text s)
text_of (Some (array _)) = None
text_of (Some (object _)) = None
