-- A line of an audit log: `node=WORD type=T msg=audit(S.M:N): key=value ..`, where the node and the fields may be missing.
use Rattle.std.specs.Prelude.{ℕ, zero, suc, ◌^◌, ◌==◌, ◌&&◌, ◌||◌, nat_le, if◌then◌else◌, Bool, true, false, List, [], ◌∷◌, ◌++◌, codes, length, Option, Some, None, option_map, option_and_then}
use Rattle.std.specs.List.{list_all}
use Rattle.std.specs.Option.{option_to_list}
use Rattle.std.specs.Str.{is_utf8}
use Rattle.osq_value.specs.Spelling.{is_digit, number_below}
use Rattle.audit_records.specs.declared.line.AuditId.{AuditId}
use Rattle.audit_records.specs.declared.line.AuditLine.{AuditLine}
use Rattle.audit_records.specs.declared.line.Field.{Field}

-- A blank parts words: a space or the byte 1D.
abbrev pub is_blank : ℕ → Bool
is_blank byte = byte == 32 || byte == 29

abbrev pub is_byte : ℕ → ℕ → Bool
is_byte wanted byte = byte == wanted

-- A key ends before a blank or `=`.
abbrev pub ends_key : ℕ → Bool
ends_key byte = is_blank byte || byte == 61

abbrev pub is_quote : ℕ → Bool
is_quote byte = byte == 34 || byte == 39

-- the part of a text before the first byte that passes a test
unfoldable pub before : (ℕ → Bool) → List ℕ → List ℕ
before test [] = []
before test (byte ∷ rest) = if test byte then [] else byte ∷ before test rest

-- the part of a text from the first such byte on
unfoldable pub onward : (ℕ → Bool) → List ℕ → List ℕ
onward test [] = []
onward test (byte ∷ rest) = if test byte then byte ∷ rest else onward test rest

-- the parts of a text before and behind the first such byte
unfoldable pub around : (ℕ → Bool) → List ℕ → Option (List ℕ × List ℕ)
around test [] = None
around test (byte ∷ rest) = if test byte then Some ([], rest) else option_map (λ parts. (byte ∷ parts.0, parts.1)) (around test rest)

-- the part of a text behind a front
unfoldable pub behind : List ℕ → List ℕ → Option (List ℕ)
behind [] text = Some text
behind (byte ∷ front) [] = None
behind (byte ∷ front) (first ∷ text) = if first == byte then behind front text else None

-- the text behind `node=WORD` and a blank, where the line begins with `node=`
abbrev pub behind_word : Option (List ℕ × List ℕ) → Option (List ℕ)
behind_word None = None
behind_word (Some parts) = if nat_le 1 (length parts.0) then Some parts.1 else None

abbrev pub behind_node : List ℕ → Option (List ℕ) → Option (List ℕ)
behind_node line None = Some line
behind_node line (Some rest) = behind_word (around is_blank rest)

unfoldable pub unnamed : List ℕ → Option (List ℕ)
unnamed line = behind_node line (behind (codes "node=") line)

-- `type=T` and a blank: T, and the text behind
abbrev pub is_kind_byte : ℕ → Bool
is_kind_byte byte = (nat_le 65 byte && nat_le byte 90) || is_digit byte || byte == 95

abbrev pub is_kind : List ℕ → Bool
is_kind text = nat_le 1 (length text) && list_all is_kind_byte text

abbrev pub checked_kind : List ℕ × List ℕ → Option (List ℕ × List ℕ)
checked_kind parts = if is_kind parts.0 then Some parts else None

unfoldable pub kind_at : List ℕ → Option (List ℕ × List ℕ)
kind_at text = option_and_then checked_kind (option_and_then (around is_blank) (behind (codes "type=") text))

-- the number of so many digits, below 2^64
unfoldable pub number_of : ℕ → ℕ → List ℕ → Option ℕ
number_of least most digits = if nat_le least (length digits) && nat_le (length digits) most then number_below (2 ^ 64) digits else None

-- the number of so many digits before a byte, and the text behind that byte
unfoldable pub number_at : ℕ → ℕ → ℕ → List ℕ → Option (ℕ × List ℕ)
number_at least most end text = option_and_then (λ parts. option_map (λ number. (number, parts.1)) (number_of least most parts.0)) (around (is_byte end) text)

-- `S.M:N)` with 1 to 12, 3, and 1 to 20 digits, and the text behind
unfoldable pub id_at : List ℕ → Option (AuditId × List ℕ)
id_at text =
    option_and_then (λ seconds. option_and_then (λ millis. option_map (λ serial. (record { seconds = seconds.0; millis = millis.0; serial = serial.0 }, serial.1))
    (number_at 1 20 41 millis.1)) (number_at 3 3 58 seconds.1)) (number_at 1 12 46 text)

-- `msg=audit(S.M:N):`, and the text behind
unfoldable pub stamp_at : List ℕ → Option (AuditId × List ℕ)
stamp_at text =
    option_and_then (λ id. option_map (λ rest. (id.0, rest)) (behind (codes ":") id.1)) (option_and_then id_at (behind (codes "msg=audit(") text))

-- what a line has before its fields, and the text of the fields, which stands behind a blank
pub record Head : Type 0 where
  pub id : AuditId
  pub kind : List ℕ
  pub fields : List ℕ

abbrev pub fields_part : List ℕ → Option (List ℕ)
fields_part [] = Some []
fields_part (byte ∷ rest) = if is_blank byte then Some rest else None

unfoldable pub head_of : List ℕ → Option Head
head_of line =
    option_and_then (λ kind. option_and_then (λ stamp. option_map (λ fields. record { id = stamp.0; kind = kind.0; fields = fields })
    (fields_part stamp.1)) (stamp_at kind.1)) (option_and_then kind_at (unnamed line))

-- a value, and the text behind it
pub record ReadValue : Type 0 where
  pub quoted : Bool
  pub text : List ℕ
  pub rest : List ℕ

-- Behind a word stands a blank or the end.
abbrev pub ends_word : List ℕ → Bool
ends_word [] = true
ends_word (byte ∷ rest) = is_blank byte

-- a value between quotes
abbrev pub quoted_value : Option (List ℕ × List ℕ) → Option ReadValue
quoted_value None = None
quoted_value (Some parts) = if ends_word parts.1 then Some (record { quoted = true; text = parts.0; rest = parts.1 }) else None

-- a value that runs to the next blank
abbrev pub bare_value : List ℕ → Option ReadValue
bare_value text = Some (record { quoted = false; text = before is_blank text; rest = onward is_blank text })

unfoldable pub value_at : List ℕ → Option ReadValue
value_at [] = bare_value []
value_at (byte ∷ rest) = if is_quote byte then quoted_value (around (is_byte byte) rest) else bare_value (byte ∷ rest)

-- a word with its field, if it has one, and the text behind it
pub record Word : Type 0 where
  pub field : Option Field
  pub rest : List ℕ

abbrev pub field_word : List ℕ → Option ReadValue → Option Word
field_word [] value = None
field_word (byte ∷ key) None = None
field_word (byte ∷ key) (Some value) = Some (record { field = Some (record { key = byte ∷ key; quoted = value.quoted; text = value.text }); rest = value.rest })

-- a word whose key is read; a word without `=` has no field
abbrev pub keyed_word : List ℕ → List ℕ → Option Word
keyed_word key [] = Some (record { field = None; rest = [] })
keyed_word key (byte ∷ rest) = if byte == 61 then field_word key (value_at rest) else Some (record { field = None; rest = byte ∷ rest })

-- the word at the front of a text
unfoldable pub word_at : List ℕ → Option Word
word_at text = keyed_word (before ends_key text) (onward ends_key text)

-- The fields of a text in at most so many steps. A step passes over a blank or reads a word.
abbrev pub fields_within : ℕ → List ℕ → Option (List Field)
fields_within steps [] = Some []
fields_within zero (byte ∷ rest) = None
fields_within (suc steps) (byte ∷ rest) =
    if is_blank byte
    then fields_within steps rest
    else option_and_then (λ word. option_map (λ fields. option_to_list word.field ++ fields) (fields_within steps word.rest)) (word_at (byte ∷ rest))

-- Each step takes a byte or more, so that as many steps as bytes reach the end.
unfoldable pub fields_of : List ℕ → Option (List Field)
fields_of text = fields_within (length text) text

abbrev pub whole_line : Head → List Field → AuditLine
whole_line head fields = record { id = head.id; kind = head.kind; fields = fields }

abbrev pub with_fields : Head → Option AuditLine
with_fields head = option_map (whole_line head) (fields_of head.fields)

unfoldable pub line_of : List ℕ → Option AuditLine
line_of text = if is_utf8 text then option_and_then with_fields (head_of text) else None
