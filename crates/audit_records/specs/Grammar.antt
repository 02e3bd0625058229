-- The grammar of a line of an audit log: which texts stand behind one another, and what they say.
use Rattle.std.specs.Prelude.{◌≡◌, ℕ, ◌<◌, ◌≤◌, ◌^◌, not, Bool, true, false, List, [], ◌∷◌, ◌++◌, codes, length}
use Rattle.std.specs.List.{list_all}
use Rattle.std.specs.Str.{IsUtf8}
use Rattle.osq_value.specs.Spelling.{is_digit, value_of}
use Rattle.audit_records.specs.declared.line.AuditLine.{AuditLine}
use Rattle.audit_records.specs.declared.line.Field.{Field}
use Rattle.audit_records.specs.Lines.{ends_key, ends_word, is_blank, is_byte, is_kind, is_quote}

-- no byte of a text passes a test
abbrev pub lacks : (ℕ → Bool) → List ℕ → Bool
lacks test text = list_all (λ byte. not (test byte)) text

-- some bytes without a blank
pub record IsWord (word : List ℕ) : Type 0 where
  pub some : 1 ≤ length word
  pub plain : lacks is_blank word ≡ true

-- some bytes without a blank and `=`
pub record IsKey (key : List ℕ) : Type 0 where
  pub some : 1 ≤ length key
  pub plain : lacks ends_key key ≡ true

-- A value without quotes doesn't begin with one.
abbrev pub begins_bare : List ℕ → Bool
begins_bare [] = true
begins_bare (byte ∷ rest) = not (is_quote byte)

-- the fields of a text, word by word
pub data AreFields : List ℕ → List Field → Type 0 where
  the_end : AreFields [] []
  a_blank : (blank : ℕ) (rest : List ℕ) (fields : List Field) → is_blank blank ≡ true → AreFields rest fields → AreFields (blank ∷ rest) fields
  -- a word without `=`
  a_word : (word rest : List ℕ) (fields : List Field) → IsKey word → ends_word rest ≡ true → AreFields rest fields → AreFields (word ++ rest) fields
  -- a value up to the next blank or the end
  a_bare : (key text rest : List ℕ) (fields : List Field) → IsKey key → begins_bare text ≡ true → lacks is_blank text ≡ true → ends_word rest ≡ true → AreFields rest fields
      → AreFields (key ++ 61 ∷ (text ++ rest)) (record { key = key; quoted = false; text = text } ∷ fields)
  -- a value up to the next quote of its kind, behind which a blank or the end follows
  a_quoted : (key text rest : List ℕ) (quote : ℕ) (fields : List Field) → IsKey key → is_quote quote ≡ true → lacks (is_byte quote) text ≡ true → ends_word rest ≡ true → AreFields rest fields
      → AreFields (key ++ 61 ∷ quote ∷ (text ++ quote ∷ rest)) (record { key = key; quoted = true; text = text } ∷ fields)

-- `node=WORD` and a blank, or nothing
pub data IsNode : List ℕ → Type 0 where
  no_node : IsNode []
  a_node : (word : List ℕ) (blank : ℕ) → IsWord word → is_blank blank ≡ true → IsNode (codes "node=" ++ (word ++ blank ∷ []))

-- a number of so many digits
pub record IsNumber (least most : ℕ) (digits : List ℕ) (number : ℕ) : Type 0 where
  pub at_least : least ≤ length digits
  pub at_most : length digits ≤ most
  pub decimal : list_all is_digit digits ≡ true
  pub value : value_of digits ≡ number
  pub small : number < 2 ^ 64

-- `node=WORD type=T msg=audit(S.M:N):`, where the node may be missing, and what follows: the end, or a blank and fields
pub record IsLine (text : List ℕ) (line : AuditLine) : Type 0 where
  pub node : List ℕ
  pub blank : ℕ
  pub whole_seconds : List ℕ
  pub thousandths : List ℕ
  pub number : List ℕ
  pub tail : List ℕ
  pub utf8 : IsUtf8 text
  pub spelled : text ≡ node ++ (codes "type=" ++ (line.kind ++ blank ∷ (codes "msg=audit(" ++ (whole_seconds ++ 46 ∷ (thousandths ++ 58 ∷ (number ++ 41 ∷ 58 ∷ tail))))))
  pub is_node : IsNode node
  pub kind : is_kind line.kind ≡ true
  pub parted : is_blank blank ≡ true
  pub seconds : IsNumber 1 12 whole_seconds line.id.seconds
  pub millis : IsNumber 3 3 thousandths line.id.millis
  pub serial : IsNumber 1 20 number line.id.serial
  pub tail_parted : ends_word tail ≡ true
  pub fields : AreFields tail line.fields
