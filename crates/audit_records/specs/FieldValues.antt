-- What the fields of audit lines say.
use Rattle.std.specs.Prelude.{ℕ, ◌^◌, ◌==◌, ◌&&◌, ◌||◌, nat_le, nat_lt, ℤ, pos, if◌then◌else◌, Bool, false, List, [], ◌∷◌, codes, length, bytes_eq, find, drop, Result, Ok, Err, Option, Some, None, option_map, option_and_then, unwrap_or}
use Rattle.std.specs.List.{list_any, prefix_len}
use Rattle.std.specs.Option.{option_map_or, option_or}
use Rattle.std.specs.Str.{is_utf8}
use Rattle.hex.specs.Hex.{decode_of}
use Rattle.hex.specs.declared.error.FromHexError.{FromHexError}
use Rattle.osq_value.specs.declared.value.Value.{Value}
use Rattle.osq_value.specs.declared.value.Value.TheVariants.{Null, Int, Text}
use Rattle.osq_value.specs.Spelling.{int_of, is_digit}
use Rattle.audit_records.specs.declared.line.AuditLine.{AuditLine}
use Rattle.audit_records.specs.declared.line.Field.{Field}

-- what a function gives of the first item of which it gives something
abbrev pub first_some : {X Y : Type 0} → (X → Option Y) → List X → Option Y
first_some f [] = None
first_some f (x ∷ xs) = option_or (f x) (first_some f xs)

-- the line has this type
abbrev pub has_kind : List ℕ → AuditLine → Bool
has_kind kind line = bytes_eq line.kind kind

-- the first field of the line with this key
abbrev pub field_of : List ℕ → AuditLine → Option Field
field_of key line = find (λ (field : Field). bytes_eq field.key key) line.fields

abbrev pub text_of : List ℕ → AuditLine → Option (List ℕ)
text_of key line = option_map (λ (field : Field). field.text) (field_of key line)

-- the key is there, with this text
abbrev pub has_text : List ℕ → List ℕ → AuditLine → Bool
has_text key text line = option_map_or (λ found. bytes_eq found text) (text_of key line) false

abbrev pub spelled_number : List ℕ → AuditLine → Option ℤ
spelled_number key line = option_and_then int_of (text_of key line)

-- the whole number that the key's text spells, else Null
abbrev pub number_value : List ℕ → AuditLine → Value
number_value key line = option_map_or Int (spelled_number key line) Null

-- the number of a field, which may be missing
abbrev pub number_in : Option Field → Value
number_in field = option_map_or Int (option_and_then int_of (option_map (λ (found : Field). found.text) field)) Null

-- a decimal digit or more between brackets, and nothing else
abbrev pub is_bracketed : List ℕ → Bool
is_bracketed [] = false
is_bracketed (byte ∷ rest) = byte == 91 && nat_le 1 (prefix_len is_digit rest) && bytes_eq (drop (prefix_len is_digit rest) rest) (codes "]")

abbrev pub is_index : List ℕ → Bool
is_index text = nat_le 1 (prefix_len is_digit text) && (nat_le (length text) (prefix_len is_digit text) || is_bracketed (drop (prefix_len is_digit text) text))

-- `aK` or `aK[J]`, K and J being decimal digits
abbrev pub is_argument_key : List ℕ → Bool
is_argument_key [] = false
is_argument_key (byte ∷ rest) = byte == 97 && is_index rest

abbrev pub string_keys : List (List ℕ)
string_keys = codes "exe" ∷ codes "cwd" ∷ codes "name" ∷ codes "comm" ∷ codes "proctitle" ∷ codes "acct" ∷ []

-- the kernel writes the values of these keys in hexadecimal where they need it
abbrev pub is_string_key : List ℕ → List ℕ → Bool
is_string_key kind key = list_any (λ known. bytes_eq key known) string_keys || (bytes_eq kind (codes "EXECVE") && is_argument_key key)

abbrev pub bytes_of : Result (List ℕ) FromHexError → Option (List ℕ)
bytes_of (Ok bytes) = Some bytes
bytes_of (Err _) = None

-- the bytes that pairs of hexadecimal digits of either case stand for
unfoldable pub hex_bytes : List ℕ → Option (List ℕ)
hex_bytes text = bytes_of (decode_of text)

abbrev pub utf8_text : List ℕ → Option (List ℕ)
utf8_text bytes = if is_utf8 bytes then Some bytes else None

-- the text that a pair of hexadecimal digits or more stands for
abbrev pub hex_text : List ℕ → Option (List ℕ)
hex_text text = if nat_le 1 (length text) then option_and_then utf8_text (hex_bytes text) else None

abbrev pub decoded : List ℕ → List ℕ
decoded text = unwrap_or (hex_text text) text

-- the text without its quotes; unquoted `(null)` is Null; an unquoted value of a string key may be hexadecimal
abbrev pub string_value : List ℕ → Field → Option (List ℕ)
string_value kind field = if field.quoted then Some field.text
    else if bytes_eq field.text (codes "(null)") then None
    else if is_string_key kind field.key then Some (decoded field.text)
    else Some field.text

abbrev pub text_or_null : Option (List ℕ) → Value
text_or_null None = Null
text_or_null (Some text) = Text text

-- the string value of a key, which is Null where the key is missing
abbrev pub value_text : List ℕ → AuditLine → Value
value_text key line = text_or_null (option_and_then (string_value line.kind) (field_of key line))

-- that of a field, which may be missing, in a line of type `kind`
abbrev pub text_in : List ℕ → Option Field → Value
text_in kind field = text_or_null (option_and_then (string_value kind) field)

abbrev pub has_succeeded : AuditLine → Bool
has_succeeded line = has_text (codes "success") (codes "yes") line

-- the second of the event; one that a column cannot hold, which no line of a log tells, is Null
abbrev pub time_of : AuditLine → Value
time_of line = if nat_lt line.id.seconds (2 ^ 63) then Int (pos line.id.seconds) else Null
