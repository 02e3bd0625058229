-- The fields that are read of a text are those of its grammar.
use Rattle.std.proofs.Common.{◌≡◌, ℕ, zero, suc, ◌≤◌, Bool, true, false, cond, List, [], ◌∷◌, ◌++◌, length, refl, sym, ap, ◌∙◌, subst, arith, Some, None}
use Rattle.std.specs.Prelude.{option_map, ◌==◌, ◌||◌, not, Option, IfSome}
use Rattle.std.specs.Option.{option_to_list}
use Rattle.std.proofs.lemmas.Bool.Decides.{Decides-eqb, nat_tests}
use Rattle.audit_records.specs.declared.line.Field.{Field}
use Rattle.audit_records.specs.Lines.{Word, ReadValue, around, before, onward, bare_value, ends_key, ends_word, field_word, fields_of, fields_within, is_blank, is_byte, is_quote, keyed_word, quoted_value, value_at, word_at}
use Rattle.audit_records.specs.Grammar.{AreFields, IsKey, begins_bare, lacks}
use Rattle.audit_records.specs.Grammar.AreFields.{the_end, a_blank, a_word, a_bare, a_quoted}
use Rattle.audit_records.proofs.Parts.{and_true, not_true, if_test, AreRound, cut_at, split_at, starts, parts_of, round_parts}
use Rattle.audit_records.proofs.Steps.{blank_step, no_fields, with_word, word_step}

-- tests of bytes

blank_no_equals : (byte : ℕ) → is_blank byte ≡ true → (byte == 61) ≡ false
blank_no_equals byte is = grind (arith, nat_tests, is)

blank_no_quote : (byte : ℕ) → is_blank byte ≡ true → is_quote byte ≡ false
blank_no_quote byte is = grind (arith, nat_tests, is)

blank_ends_key : (byte : ℕ) → is_blank byte ≡ true → ends_key byte ≡ true
blank_ends_key byte is = rw is refl

word_ends_key : (rest : List ℕ) → ends_word rest ≡ true → starts ends_key rest ≡ true
word_ends_key [] is = refl
word_ends_key (byte ∷ rest) is = blank_ends_key byte is

word_starts : (rest : List ℕ) → ends_word rest ≡ true → starts is_blank rest ≡ true
word_starts [] is = refl
word_starts (byte ∷ rest) is = is

starts_word : (rest : List ℕ) → starts is_blank rest ≡ true → ends_word rest ≡ true
starts_word [] is = refl
starts_word (byte ∷ rest) is = is

-- each form of the grammar is read

abbrev bare : List ℕ → List ℕ → ReadValue
bare text rest = record { quoted = false; text = text; rest = rest }

abbrev quoted : List ℕ → List ℕ → ReadValue
quoted text rest = record { quoted = true; text = text; rest = rest }

bare_read : (text rest : List ℕ) → lacks is_blank text ≡ true → ends_word rest ≡ true → bare_value (text ++ rest) ≡ Some (bare text rest)
bare_read text rest plain is =
    let parts = split_at is_blank text rest plain (word_starts rest is) in
    ap (λ front. Some (bare front (onward is_blank (text ++ rest)))) parts.0
    ∙ ap (λ back. Some (bare text back)) parts.1

bare_value_read : (text rest : List ℕ) → begins_bare text ≡ true → lacks is_blank text ≡ true → ends_word rest ≡ true → value_at (text ++ rest) ≡ Some (bare text rest)
unfolding value_at
bare_value_read [] [] begins plain is = bare_read [] [] plain is
bare_value_read [] (byte ∷ rest) begins plain is = rw (blank_no_quote byte is) (bare_read [] (byte ∷ rest) plain is)
bare_value_read (byte ∷ text) rest begins plain is = rw (not_true (is_quote byte) begins) (bare_read (byte ∷ text) rest plain is)

pub same_byte : (byte : ℕ) → is_byte byte byte ≡ true
same_byte byte = (Decides-eqb byte byte).1 refl

quoted_value_read : (quote : ℕ) (text rest : List ℕ) → is_quote quote ≡ true → lacks (is_byte quote) text ≡ true → ends_word rest ≡ true → value_at (quote ∷ (text ++ quote ∷ rest)) ≡ Some (quoted text rest)
unfolding value_at
quoted_value_read quote text rest opens plain is =
    rw opens (ap quoted_value (cut_at (is_byte quote) text quote rest plain (same_byte quote)).both_are ∙ ap (λ t. cond t (Some (quoted text rest)) None) is)

keyed_read : (key rest : List ℕ) → IsKey key → starts ends_key rest ≡ true → word_at (key ++ rest) ≡ keyed_word key rest
unfolding word_at
keyed_read key rest is begins =
    let parts = split_at ends_key key rest is.plain begins in
    ap (λ front. keyed_word front (onward ends_key (key ++ rest))) parts.0 ∙ ap (keyed_word key) parts.1

plain_word : (key rest : List ℕ) → ends_word rest ≡ true → keyed_word key rest ≡ Some (record { field = None; rest = rest })
plain_word key [] is = refl
plain_word key (byte ∷ rest) is = rw (blank_no_equals byte is) refl

field_read : (key rest : List ℕ) (value : ReadValue) → 1 ≤ length key → value_at rest ≡ Some value
    → keyed_word key (61 ∷ rest) ≡ Some (record { field = Some (record { key = key; quoted = value.quoted; text = value.text }); rest = value.rest })
field_read [] rest value some found = absurd (omega (arith, some))
field_read (byte ∷ key) rest value some found = ap (field_word (byte ∷ key)) found

-- the fields of a text that begins with a word
word_joins : (key rest : List ℕ) (word : Word) (fields : List Field) → IsKey key → word_at (key ++ rest) ≡ Some word → fields_of word.rest ≡ Some fields → fields_of (key ++ rest) ≡ Some (option_to_list word.field ++ fields)
word_joins [] rest word fields is found more = absurd (let some = is.some in omega (arith, some))
word_joins (byte ∷ key) rest word fields is found more =
    let ends : ends_key byte ≡ false = not_true (ends_key byte) (and_true (not (ends_key byte)) (lacks ends_key key) is.plain).0 in
    let plain : is_blank byte ≡ false = front_false (is_blank byte) (byte == 61) ends in
    word_step (byte ∷ key ++ rest) (omega arith) plain ∙ ap (with_word fields_of) found ∙ ap (option_map (λ more. option_to_list word.field ++ more)) more where
      front_false : (a b : Bool) → (a || b) ≡ false → a ≡ false
      front_false true b h = h
      front_false false b h = refl

pub fields_read : (text : List ℕ) (fields : List Field) → AreFields text fields → fields_of text ≡ Some fields
fields_read text fields the_end = no_fields
fields_read text fields (a_blank blank rest more is are) = blank_step (blank ∷ rest) (omega arith) is ∙ fields_read rest more are
fields_read text fields (a_word word rest more is ends are) =
    word_joins word rest (record { field = None; rest = rest }) more is (keyed_read word rest is (word_ends_key rest ends) ∙ plain_word word rest ends) (fields_read rest more are)
fields_read text fields (a_bare key value rest more is begins plain ends are) =
    word_joins key (61 ∷ (value ++ rest)) (record { field = Some (record { key = key; quoted = false; text = value }); rest = rest }) more is
    (keyed_read key (61 ∷ (value ++ rest)) is refl ∙ field_read key (value ++ rest) (bare value rest) is.some (bare_value_read value rest begins plain ends)) (fields_read rest more are)
fields_read text fields (a_quoted key value rest quote more is opens plain ends are) =
    word_joins key (61 ∷ quote ∷ (value ++ quote ∷ rest)) (record { field = Some (record { key = key; quoted = true; text = value }); rest = rest }) more is
    (keyed_read key (61 ∷ quote ∷ (value ++ quote ∷ rest)) is refl ∙ field_read key (quote ∷ (value ++ quote ∷ rest)) (quoted value rest) is.some (quoted_value_read quote value rest opens plain ends)) (fields_read rest more are)

-- each form that is read is one of the grammar

begins : (byte : ℕ) (rest : List ℕ) → is_quote byte ≡ false → (blank : Bool) → is_blank byte ≡ blank → begins_bare (before is_blank (byte ∷ rest)) ≡ true
unfolding before
begins byte rest plain true is = rw is refl
begins byte rest plain false is = rw is (ap not plain)

bare_sound : (key : List ℕ) (byte : ℕ) (rest : List ℕ) (fields : List Field) → IsKey key → is_quote byte ≡ false
    → IfSome (bare_value (byte ∷ rest)) (λ value. AreFields value.rest fields → AreFields (key ++ 61 ∷ byte ∷ rest) (record { key = key; quoted = value.quoted; text = value.text } ∷ fields))
bare_sound key byte rest fields is plain are =
    let parts = parts_of is_blank (byte ∷ rest) in
    subst (λ (text : List ℕ). AreFields (key ++ 61 ∷ text) (record { key = key; quoted = false; text = before is_blank (byte ∷ rest) } ∷ fields)) (sym parts.whole)
    (a_bare key (before is_blank (byte ∷ rest)) (onward is_blank (byte ∷ rest)) fields is (begins byte rest plain (is_blank byte) refl) parts.plain (starts_word (onward is_blank (byte ∷ rest)) parts.back) are)

quoted_sound : (key : List ℕ) (quote : ℕ) (rest : List ℕ) (fields : List Field) → IsKey key → is_quote quote ≡ true
    → IfSome (quoted_value (around (is_byte quote) rest)) (λ value. AreFields value.rest fields → AreFields (key ++ 61 ∷ quote ∷ rest) (record { key = key; quoted = value.quoted; text = value.text } ∷ fields))
quoted_sound key quote rest fields is opens = by_parts (around (is_byte quote) rest) (round_parts (is_byte quote) rest) where
  by_parts : (o : Option (List ℕ × List ℕ)) → IfSome o (λ parts. AreRound (is_byte quote) rest parts.0 parts.1)
      → IfSome (quoted_value o) (λ value. AreFields value.rest fields → AreFields (key ++ 61 ∷ quote ∷ rest) (record { key = key; quoted = value.quoted; text = value.text } ∷ fields))
  by_parts None round = tt
  by_parts (Some parts) round =
      if_test (ends_word parts.1) (quoted parts.0 parts.1) (λ value. AreFields value.rest fields → AreFields (key ++ 61 ∷ quote ∷ rest) (record { key = key; quoted = value.quoted; text = value.text } ∷ fields)) (λ ends are.
      let closes : round.byte ≡ quote = (Decides-eqb round.byte quote).0 round.passes in
      let whole : rest ≡ parts.0 ++ quote ∷ parts.1 = round.whole ∙ ap (λ b. parts.0 ++ b ∷ parts.1) closes in
      subst (λ (text : List ℕ). AreFields (key ++ 61 ∷ quote ∷ text) (record { key = key; quoted = true; text = parts.0 } ∷ fields)) (sym whole)
      (a_quoted key parts.0 parts.1 quote fields is opens round.plain ends are))

value_sound : (key rest : List ℕ) (fields : List Field) → IsKey key
    → IfSome (value_at rest) (λ value. AreFields value.rest fields → AreFields (key ++ 61 ∷ rest) (record { key = key; quoted = value.quoted; text = value.text } ∷ fields))
unfolding value_at before onward
value_sound key [] fields is = λ are. a_bare key [] [] fields is refl refl refl are
value_sound key (byte ∷ rest) fields is = by_quote (is_quote byte) refl where
  by_quote : (t : Bool) → is_quote byte ≡ t
      → IfSome (cond t (quoted_value (around (is_byte byte) rest)) (bare_value (byte ∷ rest))) (λ value. AreFields value.rest fields → AreFields (key ++ 61 ∷ byte ∷ rest) (record { key = key; quoted = value.quoted; text = value.text } ∷ fields))
  by_quote true opens = quoted_sound key byte rest fields is opens
  by_quote false opens = bare_sound key byte rest fields is opens

field_sound : (key rest : List ℕ) (fields : List Field) → lacks ends_key key ≡ true
    → IfSome (field_word key (value_at rest)) (λ word. AreFields word.rest fields → AreFields (key ++ 61 ∷ rest) (option_to_list word.field ++ fields))
field_sound [] rest fields plain = tt
field_sound (byte ∷ key) rest fields plain = by_value (value_at rest) (value_sound (byte ∷ key) rest fields (record { some = omega arith; plain = plain })) where
  by_value : (o : Option ReadValue)
      → IfSome o (λ value. AreFields value.rest fields → AreFields (byte ∷ key ++ 61 ∷ rest) (record { key = byte ∷ key; quoted = value.quoted; text = value.text } ∷ fields))
      → IfSome (field_word (byte ∷ key) o) (λ word. AreFields word.rest fields → AreFields (byte ∷ key ++ 61 ∷ rest) (option_to_list word.field ++ fields))
  by_value None sound = tt
  by_value (Some value) sound = sound

-- a word without `=`, or nothing
passed : (word rest : List ℕ) (fields : List Field) → lacks ends_key word ≡ true → ends_word rest ≡ true → AreFields rest fields → AreFields (word ++ rest) fields
passed [] rest fields plain is are = are
passed (byte ∷ word) rest fields plain is are = a_word (byte ∷ word) rest fields (record { some = omega arith; plain = plain }) is are

only_blank : (a b : Bool) → (a || b) ≡ true → b ≡ false → a ≡ true
only_blank true b h k = refl
only_blank false b h k = absurd (cc)

keyed_sound : (key rest : List ℕ) (fields : List Field) → lacks ends_key key ≡ true → starts ends_key rest ≡ true
    → IfSome (keyed_word key rest) (λ word. AreFields word.rest fields → AreFields (key ++ rest) (option_to_list word.field ++ fields))
keyed_sound key [] fields plain begins = λ are. passed key [] fields plain refl are
keyed_sound key (byte ∷ rest) fields plain begins = by_equals (byte == 61) refl where
  by_equals : (t : Bool) → (byte == 61) ≡ t
      → IfSome (cond t (field_word key (value_at rest)) (Some (record { field = None; rest = byte ∷ rest }))) (λ word. AreFields word.rest fields → AreFields (key ++ byte ∷ rest) (option_to_list word.field ++ fields))
  by_equals true is =
      let same : byte ≡ 61 = (Decides-eqb byte 61).0 is in
      subst (λ (b : ℕ). IfSome (field_word key (value_at rest)) (λ word. AreFields word.rest fields → AreFields (key ++ b ∷ rest) (option_to_list word.field ++ fields))) (sym same) (field_sound key rest fields plain)
  by_equals false is = λ are. passed key (byte ∷ rest) fields plain (only_blank (is_blank byte) (byte == 61) begins is) are

word_sound : (text : List ℕ) (fields : List Field) → IfSome (word_at text) (λ word. AreFields word.rest fields → AreFields text (option_to_list word.field ++ fields))
unfolding word_at
word_sound text fields =
    let parts = parts_of ends_key text in
    subst (λ (whole : List ℕ). IfSome (keyed_word (before ends_key text) (onward ends_key text)) (λ word. AreFields word.rest fields → AreFields whole (option_to_list word.field ++ fields))) (sym parts.whole)
    (keyed_sound (before ends_key text) (onward ends_key text) fields parts.plain parts.back)

joined_sound : (text : List ℕ) (word : Word) (found : Option (List Field)) → ((more : List Field) → found ≡ Some more → AreFields text (option_to_list word.field ++ more))
    → (fields : List Field) → option_map (λ more. option_to_list word.field ++ more) found ≡ Some fields → AreFields text fields
joined_sound text word None sound fields is = absurd (cc)
joined_sound text word (Some more) sound fields is = let same : option_to_list word.field ++ more ≡ fields = cc in subst (AreFields text) same (sound more refl)

words_sound : (steps : ℕ) (text : List ℕ) (found : Option Word) → ((rest : List ℕ) (fields : List Field) → fields_within steps rest ≡ Some fields → AreFields rest fields)
    → ((word : Word) → found ≡ Some word → (fields : List Field) → AreFields word.rest fields → AreFields text (option_to_list word.field ++ fields))
    → (fields : List Field) → with_word (fields_within steps) found ≡ Some fields → AreFields text fields
words_sound steps text None rests sound fields is = absurd (cc)
words_sound steps text (Some word) rests sound fields is =
    joined_sound text word (fields_within steps word.rest) (λ more found. sound word refl more (rests word.rest more found)) fields is

some_word : (text : List ℕ) (fields : List Field) (word : Word) → word_at text ≡ Some word → AreFields word.rest fields → AreFields text (option_to_list word.field ++ fields)
some_word text fields word found =
    subst (λ o. IfSome o (λ word. AreFields word.rest fields → AreFields text (option_to_list word.field ++ fields))) found (word_sound text fields)

step_sound : (steps byte : ℕ) (rest : List ℕ) (blank : Bool) → is_blank byte ≡ blank → ((text : List ℕ) (fields : List Field) → fields_within steps text ≡ Some fields → AreFields text fields)
    → (fields : List Field) → cond blank (fields_within steps rest) (with_word (fields_within steps) (word_at (byte ∷ rest))) ≡ Some fields → AreFields (byte ∷ rest) fields
step_sound steps byte rest true is rests fields found = a_blank byte rest fields is (rests rest fields found)
step_sound steps byte rest false is rests fields found =
    words_sound steps (byte ∷ rest) (word_at (byte ∷ rest)) rests (λ word is more are. some_word (byte ∷ rest) more word is are) fields found

within_sound : (steps : ℕ) (text : List ℕ) (fields : List Field) → fields_within steps text ≡ Some fields → AreFields text fields
within_sound zero [] fields is = let same : [] ≡ fields = cc in subst (AreFields []) same the_end
within_sound zero (byte ∷ rest) fields is = absurd (cc)
within_sound (suc steps) [] fields is = let same : [] ≡ fields = cc in subst (AreFields []) same the_end
within_sound (suc steps) (byte ∷ rest) fields is = step_sound steps byte rest (is_blank byte) refl (within_sound steps) fields is

pub fields_sound : (text : List ℕ) (fields : List Field) → fields_of text ≡ Some fields → AreFields text fields
unfolding fields_of
fields_sound text fields is = within_sound (length text) text fields is
