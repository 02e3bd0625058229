-- Functions on the texts of values. A character is a Unicode scalar value, as UTF-8 spells it.
use Rattle.std.specs.Prelude.{ℕ, ◌==◌, if◌then◌else◌, Option, Some, None, List, [], ◌∷◌, ◌++◌, map, length, reverse, pos}
use Rattle.std.specs.Char.{to_ascii_lowercase, to_ascii_uppercase}
use Rattle.std.specs.Fmt.{signed_decimal}
use Rattle.std.specs.Str.{chars}
use Rattle.osq_value.specs.declared.value.Value.{Value}
use Rattle.osq_value.specs.declared.value.Value.TheVariants.{Null, Int, Text}

-- the text of a value, none for Null
abbrev pub text_of : Value → Option (List ℕ)
text_of Null = None
text_of (Int n) = Some (signed_decimal n)
text_of (Text s) = Some s

-- the decimal text of a number, and the text of a value of which that is known
abbrev pub decimal_of : Value → List ℕ
decimal_of Null = []
decimal_of (Int n) = signed_decimal n
decimal_of (Text s) = []

abbrev pub text_with : Value → List ℕ → Option (List ℕ)
text_with Null decimal = None
text_with (Int n) decimal = Some decimal
text_with (Text s) decimal = Some s

abbrev pub on_text : (List ℕ → Value) → Option (List ℕ) → Value
on_text f None = Null
on_text f (Some s) = f s

abbrev pub on_texts : (List ℕ → List ℕ → Value) → Option (List ℕ) → Option (List ℕ) → Value
on_texts f None None = Null
on_texts f None (Some s) = Null
on_texts f (Some r) None = Null
on_texts f (Some r) (Some s) = f r s

-- `||`
abbrev pub concat_of : Value → Value → Value
concat_of left right = on_texts (λ r s. Text (r ++ s)) (text_of left) (text_of right)

abbrev pub length_of : Value → Value
length_of value = on_text (λ s. Int (pos (length (chars s)))) (text_of value)

abbrev pub lower_of : Value → Value
lower_of value = on_text (λ s. Text (map to_ascii_lowercase s)) (text_of value)

abbrev pub upper_of : Value → Value
upper_of value = on_text (λ s. Text (map to_ascii_uppercase s)) (text_of value)

-- a text without the spaces at its front
abbrev pub behind_spaces : List ℕ → List ℕ
behind_spaces [] = []
behind_spaces (byte ∷ rest) = if byte == 32 then behind_spaces rest else byte ∷ rest

-- a text without the spaces at both ends
abbrev pub trimmed : List ℕ → List ℕ
trimmed s = reverse (behind_spaces (reverse (behind_spaces s)))

abbrev pub trim_of : Value → Value
trim_of value = on_text (λ s. Text (trimmed s)) (text_of value)
