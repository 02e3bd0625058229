-- How the fields of a text are read, word by word.
use Rattle.std.proofs.Common.{◌≡◌, ℕ, zero, suc, ◌<◌, ◌≤◌, Bool, true, false, cond, List, [], ◌∷◌, ◌++◌, length, drop, refl, sym, ap, subst, ◌∙◌, arith, append_assoc, Some, None}
use Rattle.std.specs.Prelude.{slice_index, option_map, option_and_then, ◌==◌, Option, IfSome}
use Rattle.std.specs.Option.{option_to_list}
use Rattle.std.proofs.lemmas.List.{append-nil}
use Rattle.audit_records.specs.declared.error.AuditLineError.{AuditLineError}
use Rattle.audit_records.specs.declared.error.AuditLineError.TheVariants as fault
use Rattle.audit_records.specs.declared.line.Field.{Field}
use Rattle.audit_records.specs.Lines.{Word, ReadValue, around, before, onward, ends_key, is_blank, is_byte, is_quote, ends_word, quoted_value, bare_value, value_at, field_word, keyed_word, word_at, fields_within, fields_of}
use Rattle.audit_records.specs.Reads.{Refuses}

-- what stands behind a part is no longer than the text

onward_short : (test : ℕ → Bool) (text : List ℕ) → length (onward test text) ≤ length text
unfolding onward
onward_short test [] = omega arith
onward_short test (byte ∷ rest) =
    elim (test byte) as (λ t. length (cond t (byte ∷ rest) (onward test rest)) ≤ length (byte ∷ rest)) [
      | true ↦ omega arith
      | false ↦ (let more = onward_short test rest in omega arith)
    ]

around_short : (test : ℕ → Bool) (text : List ℕ) → IfSome {T = List ℕ × List ℕ} (around test text) (λ parts. length parts.1 ≤ length text)
unfolding around
around_short test [] = tt
around_short test (byte ∷ rest) =
    elim (test byte) as (λ t. IfSome {T = List ℕ × List ℕ} (cond t (Some ([], rest)) (option_map (λ parts. (byte ∷ parts.0, parts.1)) (around test rest))) (λ parts. length parts.1 ≤ length (byte ∷ rest))) [
      | true ↦ omega arith
      | false ↦ grown (around test rest) (around_short test rest)
    ] where
      grown : (found : Option (List ℕ × List ℕ)) → IfSome found (λ parts. length parts.1 ≤ length rest) → IfSome {T = List ℕ × List ℕ} (option_map (λ parts. (byte ∷ parts.0, parts.1)) found) (λ parts. length parts.1 ≤ length (byte ∷ rest))
      grown None short = tt
      grown (Some parts) short = omega (arith, short)

quoted_short : (text : List ℕ) (found : Option (List ℕ × List ℕ)) → IfSome found (λ parts. length parts.1 ≤ length text) → IfSome (quoted_value found) (λ value. length value.rest ≤ suc (length text))
quoted_short text None short = tt
quoted_short text (Some parts) short =
    elim (ends_word parts.1) as (λ t. IfSome (cond t (Some (record { quoted = true; text = parts.0; rest = parts.1 })) None) (λ (value : ReadValue). length value.rest ≤ suc (length text))) [
      | true ↦ omega (arith, short)
      | false ↦ tt
    ]

value_short : (text : List ℕ) → IfSome (value_at text) (λ value. length value.rest ≤ length text)
unfolding value_at
value_short [] = onward_short is_blank []
value_short (byte ∷ rest) =
    elim (is_quote byte) as (λ t. IfSome (cond t (quoted_value (around (is_byte byte) rest)) (bare_value (byte ∷ rest))) (λ value. length value.rest ≤ length (byte ∷ rest))) [
      | true ↦ quoted_short rest (around (is_byte byte) rest) (around_short (is_byte byte) rest)
      | false ↦ onward_short is_blank (byte ∷ rest)
    ]

field_short : (bound : ℕ) (key : List ℕ) (found : Option ReadValue) → IfSome found (λ value. length value.rest ≤ bound) → IfSome (field_word key found) (λ word. length word.rest ≤ bound)
field_short bound [] found short = tt
field_short bound (byte ∷ key) None short = tt
field_short bound (byte ∷ key) (Some value) short = short

weaker : (bound more : ℕ) (found : Option ReadValue) → bound ≤ more → IfSome found (λ value. length value.rest ≤ bound) → IfSome found (λ value. length value.rest ≤ more)
weaker bound more None below short = tt
weaker bound more (Some value) below short = omega (arith, below, short)

keyed_short : (key text : List ℕ) → IfSome (keyed_word key text) (λ word. length word.rest ≤ length text)
keyed_short key [] = omega arith
keyed_short key (byte ∷ rest) =
    elim (byte == 61) as (λ t. IfSome (cond t (field_word key (value_at rest)) (Some (record { field = None; rest = byte ∷ rest }))) (λ word. length word.rest ≤ length (byte ∷ rest))) [
      | true ↦ field_short (suc (length rest)) key (value_at rest) (weaker (length rest) (suc (length rest)) (value_at rest) (omega arith) (value_short rest))
      | false ↦ omega arith
    ]

bound_word : (bound more : ℕ) (found : Option Word) → bound ≤ more → IfSome found (λ word. length word.rest ≤ bound) → IfSome found (λ word. length word.rest ≤ more)
bound_word bound more None below short = tt
bound_word bound more (Some word) below short = omega (arith, below, short)

-- a word takes a byte
word_short : (byte : ℕ) (rest : List ℕ) → is_blank byte ≡ false → IfSome (word_at (byte ∷ rest)) (λ word. length word.rest ≤ length rest)
unfolding word_at before onward
word_short byte rest plain = rw plain (by_equals (byte == 61) refl) where
  by_equals : (equals : Bool) → (byte == 61) ≡ equals
      → IfSome (keyed_word (cond (byte == 61) [] (byte ∷ before ends_key rest)) (cond (byte == 61) (byte ∷ rest) (onward ends_key rest))) (λ word. length word.rest ≤ length rest)
  by_equals true is = rw (is, is) tt
  by_equals false is = rw is (bound_word (length (onward ends_key rest)) (length rest) (keyed_word (byte ∷ before ends_key rest) (onward ends_key rest)) (onward_short ends_key rest) (keyed_short (byte ∷ before ends_key rest) (onward ends_key rest)))

-- the fields of a word and of what stands behind it
abbrev pub with_word : (List ℕ → Option (List Field)) → Option Word → Option (List Field)
with_word fields found = option_and_then (λ word. option_map (λ more. option_to_list word.field ++ more) (fields word.rest)) found

same_fields : (bound : ℕ) (one two : List ℕ → Option (List Field)) → ((text : List ℕ) → length text ≤ bound → one text ≡ two text) → (found : Option Word) → IfSome found (λ word. length word.rest ≤ bound) → with_word one found ≡ with_word two found
same_fields bound one two same None short = refl
same_fields bound one two same (Some word) short = ap (option_map (λ more. option_to_list word.field ++ more)) (same word.rest short)

step_same : (one two byte : ℕ) (rest : List ℕ) (blank : Bool) → is_blank byte ≡ blank → length rest ≤ one → length rest ≤ two
    → ((text : List ℕ) → length text ≤ one → length text ≤ two → fields_within one text ≡ fields_within two text)
    → fields_within (suc one) (byte ∷ rest) ≡ fields_within (suc two) (byte ∷ rest)
step_same one two byte rest true is first second same = rw is (same rest first second)
step_same one two byte rest false is first second same =
    rw is (same_fields (length rest) (fields_within one) (fields_within two) (λ text short. same text (omega (arith, short, first)) (omega (arith, short, second))) (word_at (byte ∷ rest)) (word_short byte rest is))

-- More steps than bytes change nothing.
same_steps : (one two : ℕ) (text : List ℕ) → length text ≤ one → length text ≤ two → fields_within one text ≡ fields_within two text
same_steps zero zero text first second = refl
same_steps zero (suc two) [] first second = refl
same_steps zero (suc two) (byte ∷ rest) first second = absurd (omega (arith, first))
same_steps (suc one) zero [] first second = refl
same_steps (suc one) zero (byte ∷ rest) first second = absurd (omega (arith, second))
same_steps (suc one) (suc two) [] first second = refl
same_steps (suc one) (suc two) (byte ∷ rest) first second =
    step_same one two byte rest (is_blank byte) refl (omega (arith, first)) (omega (arith, second)) (same_steps one two)

-- the end of the text
pub no_fields : fields_of [] ≡ Some []
unfolding fields_of
no_fields = refl

-- a blank is passed over
pub blank_step : (text : List ℕ) → 0 < length text → is_blank (slice_index text 0) ≡ true → fields_of text ≡ fields_of (drop 1 text)
unfolding fields_of
blank_step [] some is = absurd (omega (arith, some))
blank_step (byte ∷ rest) some is = rw is refl

-- a word is read
pub word_step : (text : List ℕ) → 0 < length text → is_blank (slice_index text 0) ≡ false → fields_of text ≡ with_word fields_of (word_at text)
unfolding fields_of
word_step [] some is = absurd (omega (arith, some))
word_step (byte ∷ rest) some is =
    rw is (same_fields (length rest) (fields_within (length rest)) fields_of (λ text short. same_steps (length rest) (length text) text short (omega arith)) (word_at (byte ∷ rest)) (word_short byte rest is))

no_word : (text : List ℕ) → 0 < length text → is_blank (slice_index text 0) ≡ false → word_at text ≡ None → fields_of text ≡ None
no_word text some is none = word_step text some is ∙ ap (with_word fields_of) none

-- A word that can't be read refuses all of the text.
pub refused : (read : List Field) (all text : List ℕ) (error : AuditLineError) → 0 < length text → is_blank (slice_index text 0) ≡ false
    → option_map (λ more. read ++ more) (fields_of text) ≡ fields_of all → Refuses (word_at text) error → Refuses (fields_of all) error
refused read all text fault.BadLine some is before none = sym before ∙ ap (option_map (λ more. read ++ more)) (no_word text some is none)
refused read all text fault.NoMemory some is before none = tt

joined : (read added : List Field) (found : Option (List Field)) → option_map (λ more. (read ++ added) ++ more) found ≡ option_map (λ more. read ++ more) (option_map (λ more. added ++ more) found)
joined read added None = refl
joined read added (Some more) = ap Some (append_assoc read added more)

-- The fields of all are those that were read and those of the text. Past a blank, and past a word, they still are.
pub blank_read : (read : List Field) (all text rest : List ℕ) → 0 < length text → is_blank (slice_index text 0) ≡ true → rest ≡ drop 1 text
    → option_map (λ more. read ++ more) (fields_of text) ≡ fields_of all → option_map (λ more. read ++ more) (fields_of rest) ≡ fields_of all
blank_read read all text rest some is rest_is before =
    ap (λ found. option_map (λ more. read ++ more) found) (ap fields_of rest_is ∙ sym (blank_step text some is)) ∙ before

pub word_read : (read added : List Field) (all text : List ℕ) (word : Word) → 0 < length text → is_blank (slice_index text 0) ≡ false → word_at text ≡ Some word → added ≡ read ++ option_to_list word.field
    → option_map (λ more. read ++ more) (fields_of text) ≡ fields_of all → option_map (λ more. added ++ more) (fields_of word.rest) ≡ fields_of all
word_read read added all text word some is found added_is before =
    ap (λ fields. option_map (λ more. fields ++ more) (fields_of word.rest)) added_is ∙ joined read (option_to_list word.field) (fields_of word.rest)
    ∙ ap (option_map (λ more. read ++ more)) (sym (word_step text some is ∙ ap (with_word fields_of) found)) ∙ before

-- what stands behind a word is shorter
pub shorter_rest : (text : List ℕ) (word : Word) → 0 < length text → is_blank (slice_index text 0) ≡ false → word_at text ≡ Some word → length word.rest < length text
shorter_rest [] word some is found = absurd (omega (arith, some))
shorter_rest (byte ∷ rest) word some is found =
    let short : length word.rest ≤ length rest = subst (λ found. IfSome found (λ word. length word.rest ≤ length rest)) found (word_short byte rest is) in
    omega arith

-- the end is reached
pub all_read : (read : List Field) (all text : List ℕ) → length text ≡ 0 → option_map (λ more. read ++ more) (fields_of text) ≡ fields_of all → fields_of all ≡ Some read
all_read read all [] none before = sym before ∙ ap (option_map (λ more. read ++ more)) no_fields ∙ ap Some (append-nil read)
all_read read all (byte ∷ rest) none before = absurd (omega (arith, none))
