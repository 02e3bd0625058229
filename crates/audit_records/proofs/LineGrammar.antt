-- The line that is read of a text is that of its grammar.
use Rattle.std.proofs.Common.{◌≡◌, ℕ, ◌<◌, ◌≤◌, ◌^◌, Bool, true, false, cond, List, [], ◌∷◌, ◌++◌, length, refl, sym, ap, ◌∙◌, subst, arith, append_assoc, Some, None, codes}
use Rattle.std.specs.Prelude.{option_map, option_and_then, ◌&&◌, nat_le, nat_lt, Option, IfSome, IfOk, Result, Ok, Err}
use Rattle.std.specs.List.{list_all}
use Rattle.std.specs.Str.{is_utf8, IsUtf8}
use Rattle.std.proofs.lemmas.Bool.Decides.{Decides-eqb, nat_tests}
use Rattle.std.proofs.lemmas.Str.{IsUtf8-from_is_utf8, is_utf8-from_IsUtf8}
use Rattle.osq_value.specs.Spelling.{is_digit, value_of, number_below}
use Rattle.audit_records.specs.declared.error.AuditLineError.{AuditLineError}
use Rattle.audit_records.specs.declared.error.AuditLineError.TheVariants as fault
use Rattle.audit_records.specs.declared.line.AuditId.{AuditId}
use Rattle.audit_records.specs.declared.line.AuditLine.{AuditLine}
use Rattle.audit_records.specs.declared.line.Field.{Field}
use Rattle.audit_records.specs.Lines.{Head, around, behind, behind_node, behind_word, checked_kind, ends_word, fields_of, fields_part, head_of, id_at, is_blank, is_byte, is_kind, is_kind_byte, kind_at, line_of, number_at, number_of, stamp_at, unnamed, whole_line, with_fields}
use Rattle.audit_records.specs.Grammar.{AreFields, IsLine, IsNode, IsNumber, IsWord, lacks}
use Rattle.audit_records.specs.Grammar.AreFields.{a_blank}
use Rattle.audit_records.specs.Grammar.IsNode.{no_node, a_node}
use Rattle.audit_records.specs.Reads.{Reads}
use Rattle.audit_records.proofs.FieldGrammar.{fields_read, fields_sound, same_byte}
use Rattle.audit_records.proofs.Steps.{blank_step}
use Rattle.std.proofs.lemmas.Bool.{false_from_ne_true}
use Rattle.audit_records.proofs.Parts.{AreRound, and_true, behind_parts, cut_at, if_map, if_test, if_then, round_parts}
use Rattle.audit_records.proofs.Places.{behind_front}

-- each part that is read is one of the grammar

record NodeBefore (line rest : List ℕ) : Type 0 where
  node : List ℕ
  is_node : IsNode node
  whole : line ≡ node ++ rest

node_sound : (line : List ℕ) → IfSome (unnamed line) (NodeBefore line)
unfolding unnamed
node_sound line = by_front (behind (codes "node=") line) (behind_parts (codes "node=") line) where
  by_word : (rest : List ℕ) → line ≡ codes "node=" ++ rest → (o : Option (List ℕ × List ℕ)) → IfSome o (λ parts. AreRound is_blank rest parts.0 parts.1) → IfSome (behind_word o) (NodeBefore line)
  by_word rest is None round = tt
  by_word rest is (Some parts) round =
      if_test (nat_le 1 (length parts.0)) parts.1 (NodeBefore line) (λ some. record {
        node = codes "node=" ++ (parts.0 ++ round.byte ∷ []);
        is_node = a_node parts.0 round.byte (record { some = grind (arith, nat_tests, some); plain = round.plain }) round.passes;
        whole = is ∙ ap (λ l. codes "node=" ++ l) (round.whole ∙ sym (append_assoc parts.0 (round.byte ∷ []) parts.1));
      })

  by_front : (o : Option (List ℕ)) → IfSome o (λ rest. line ≡ codes "node=" ++ rest) → IfSome (behind_node line o) (NodeBefore line)
  by_front None is = record { node = []; is_node = no_node; whole = refl }
  by_front (Some rest) is = by_word rest is (around is_blank rest) (round_parts is_blank rest)

record KindBefore (text kind rest : List ℕ) : Type 0 where
  is_one : is_kind kind ≡ true
  blank : ℕ
  parted : is_blank blank ≡ true
  whole : text ≡ codes "type=" ++ (kind ++ blank ∷ rest)

kind_sound : (text : List ℕ) → IfSome {T = List ℕ × List ℕ} (kind_at text) (λ parts. KindBefore text parts.0 parts.1)
unfolding kind_at
kind_sound text = by_front (behind (codes "type=") text) (behind_parts (codes "type=") text) where
  by_front : (o : Option (List ℕ)) → IfSome o (λ rest. text ≡ codes "type=" ++ rest) → IfSome {T = List ℕ × List ℕ} (option_and_then checked_kind (option_and_then (around is_blank) o)) (λ parts. KindBefore text parts.0 parts.1)
  by_front None is = tt
  by_front (Some rest) is =
      if_then (around is_blank rest) checked_kind (λ parts. AreRound is_blank rest parts.0 parts.1) (λ parts. KindBefore text parts.0 parts.1) (round_parts is_blank rest)
      (λ parts round. if_test (is_kind parts.0) parts (λ parts. KindBefore text parts.0 parts.1) (λ kind. record { is_one = kind; blank = round.byte; parted = round.passes; whole = is ∙ ap (λ l. codes "type=" ++ l) round.whole }))

both : (a b c : Bool) → (a && b && c) ≡ true → (a ≡ true) × (b ≡ true) × (c ≡ true)
both a b c h = let first = and_true (a && b) c h in let second = and_true a b first.0 in (second.0, second.1, first.1)

digits_sound : (least most : ℕ) (digits : List ℕ) → IfSome (number_of least most digits) (IsNumber least most digits)
unfolding number_of
digits_sound least most digits = by_length (nat_le least (length digits) && nat_le (length digits) most) refl where
  by_value : nat_le least (length digits) ≡ true → nat_le (length digits) most ≡ true → IfSome (number_below (2 ^ 64) digits) (IsNumber least most digits)
  by_value low high =
      if_test (nat_le 1 (length digits) && list_all is_digit digits && nat_lt (value_of digits) (2 ^ 64)) (value_of digits) (IsNumber least most digits) (λ is.
      let parts = both (nat_le 1 (length digits)) (list_all is_digit digits) (nat_lt (value_of digits) (2 ^ 64)) is in
      let third = parts.2 in
      record { at_least = grind (arith, nat_tests, low); at_most = grind (arith, nat_tests, high); decimal = parts.1; value = refl; small = grind (arith, nat_tests, third) })

  by_length : (t : Bool) → (nat_le least (length digits) && nat_le (length digits) most) ≡ t → IfSome (cond t (number_below (2 ^ 64) digits) None) (IsNumber least most digits)
  by_length true is = let parts = and_true (nat_le least (length digits)) (nat_le (length digits) most) is in by_value parts.0 parts.1
  by_length false is = tt

record NumberBefore (least most end : ℕ) (text : List ℕ) (number : ℕ) (rest : List ℕ) : Type 0 where
  digits : List ℕ
  are : IsNumber least most digits number
  whole : text ≡ digits ++ end ∷ rest

number_sound : (least most end : ℕ) (text : List ℕ) → IfSome {T = ℕ × List ℕ} (number_at least most end text) (λ read. NumberBefore least most end text read.0 read.1)
unfolding number_at
number_sound least most end text =
    if_then (around (is_byte end) text) (λ parts. option_map (λ number. (number, parts.1)) (number_of least most parts.0)) (λ parts. AreRound (is_byte end) text parts.0 parts.1) (λ read. NumberBefore least most end text read.0 read.1) (round_parts (is_byte end) text)
    (λ parts round. if_map (number_of least most parts.0) (λ number. (number, parts.1)) (IsNumber least most parts.0) (λ read. NumberBefore least most end text read.0 read.1) (digits_sound least most parts.0)
    (λ number are. record { digits = parts.0; are = are; whole = round.whole ∙ ap (λ b. parts.0 ++ b ∷ parts.1) ((Decides-eqb round.byte end).0 round.passes) }))

record IdBefore (text : List ℕ) (id : AuditId) (rest : List ℕ) : Type 0 where
  whole_seconds : List ℕ
  thousandths : List ℕ
  number : List ℕ
  seconds : IsNumber 1 12 whole_seconds id.seconds
  millis : IsNumber 3 3 thousandths id.millis
  serial : IsNumber 1 20 number id.serial
  whole : text ≡ whole_seconds ++ 46 ∷ (thousandths ++ 58 ∷ (number ++ 41 ∷ rest))

abbrev id_with : ℕ → ℕ → ℕ × List ℕ → AuditId × List ℕ
id_with seconds millis serial = (record { seconds = seconds; millis = millis; serial = serial.0 }, serial.1)

id_sound : (text : List ℕ) → IfSome {T = AuditId × List ℕ} (id_at text) (λ read. IdBefore text read.0 read.1)
unfolding id_at
id_sound text =
    if_then (number_at 1 12 46 text) (λ seconds. option_and_then (λ millis. option_map (id_with seconds.0 millis.0) (number_at 1 20 41 millis.1)) (number_at 3 3 58 seconds.1))
    (λ read. NumberBefore 1 12 46 text read.0 read.1) (λ read. IdBefore text read.0 read.1) (number_sound 1 12 46 text) (λ seconds first.
    if_then (number_at 3 3 58 seconds.1) (λ millis. option_map (id_with seconds.0 millis.0) (number_at 1 20 41 millis.1))
    (λ read. NumberBefore 3 3 58 seconds.1 read.0 read.1) (λ read. IdBefore text read.0 read.1) (number_sound 3 3 58 seconds.1) (λ millis second.
    if_map (number_at 1 20 41 millis.1) (id_with seconds.0 millis.0)
    (λ read. NumberBefore 1 20 41 millis.1 read.0 read.1) (λ read. IdBefore text read.0 read.1) (number_sound 1 20 41 millis.1) (λ serial third. record {
      whole_seconds = first.digits;
      thousandths = second.digits;
      number = third.digits;
      seconds = first.are;
      millis = second.are;
      serial = third.are;
      whole = first.whole ∙ ap (λ l. first.digits ++ 46 ∷ l) (second.whole ∙ ap (λ l. second.digits ++ 58 ∷ l) third.whole);
    })))

record StampBefore (text : List ℕ) (id : AuditId) (rest : List ℕ) : Type 0 where
  before : List ℕ
  parts : IdBefore before id (58 ∷ rest)
  whole : text ≡ codes "msg=audit(" ++ before

stamp_sound : (text : List ℕ) → IfSome {T = AuditId × List ℕ} (stamp_at text) (λ read. StampBefore text read.0 read.1)
unfolding stamp_at
stamp_sound text = by_front (behind (codes "msg=audit(") text) (behind_parts (codes "msg=audit(") text) where
  by_front : (o : Option (List ℕ)) → IfSome o (λ rest. text ≡ codes "msg=audit(" ++ rest)
      → IfSome {T = AuditId × List ℕ} (option_and_then (λ id. option_map (λ rest. (id.0, rest)) (behind (codes ":") id.1)) (option_and_then id_at o)) (λ read. StampBefore text read.0 read.1)
  by_front None is = tt
  by_front (Some rest) is =
      if_then (id_at rest) (λ id. option_map (λ rest. (id.0, rest)) (behind (codes ":") id.1)) (λ read. IdBefore rest read.0 read.1) (λ read. StampBefore text read.0 read.1) (id_sound rest) (λ id first.
      if_map (behind (codes ":") id.1) (λ rest. (id.0, rest)) (λ rest. id.1 ≡ codes ":" ++ rest) (λ read. StampBefore text read.0 read.1) (behind_parts (codes ":") id.1)
      (λ tail tail_is. record { before = rest; parts = subst (IdBefore rest id.0) tail_is first; whole = is }))

-- what stands behind the head: the end, or a blank and this text
record Tail (tail rest : List ℕ) : Type 0 where
  parted : ends_word tail ≡ true
  fields : (found : List Field) → AreFields rest found → AreFields tail found

tail_sound : (tail : List ℕ) → IfSome (fields_part tail) (Tail tail)
tail_sound [] = record { parted = refl; fields = λ found are. are }
tail_sound (byte ∷ rest) = if_test (is_blank byte) rest (Tail (byte ∷ rest)) (λ is. record { parted = is; fields = λ found are. a_blank byte rest found is are })

record HeadBefore (line : List ℕ) (head : Head) : Type 0 where
  unnamed_line : List ℕ
  kind_tail : List ℕ
  tail : List ℕ
  node : NodeBefore line unnamed_line
  kind : KindBefore unnamed_line head.kind kind_tail
  stamp : StampBefore kind_tail head.id tail
  fields : Tail tail head.fields

abbrev head_with : List ℕ → AuditId → List ℕ → Head
head_with kind id fields = record { id = id; kind = kind; fields = fields }

head_sound : (line : List ℕ) → IfSome (head_of line) (HeadBefore line)
unfolding head_of
head_sound line = by_node (unnamed line) (node_sound line) where
  by_node : (o : Option (List ℕ)) → IfSome o (NodeBefore line)
      → IfSome (option_and_then (λ kind. option_and_then (λ stamp. option_map (head_with kind.0 stamp.0) (fields_part stamp.1)) (stamp_at kind.1)) (option_and_then kind_at o)) (HeadBefore line)
  by_node None is = tt
  by_node (Some rest) node =
      if_then (kind_at rest) (λ kind. option_and_then (λ stamp. option_map (head_with kind.0 stamp.0) (fields_part stamp.1)) (stamp_at kind.1))
      (λ parts. KindBefore rest parts.0 parts.1) (HeadBefore line) (kind_sound rest) (λ kind first.
      if_then (stamp_at kind.1) (λ stamp. option_map (head_with kind.0 stamp.0) (fields_part stamp.1))
      (λ read. StampBefore kind.1 read.0 read.1) (HeadBefore line) (stamp_sound kind.1) (λ stamp second.
      if_map (fields_part stamp.1) (head_with kind.0 stamp.0) (Tail stamp.1) (HeadBefore line) (tail_sound stamp.1) (λ fields third.
      record { unnamed_line = rest; kind_tail = kind.1; tail = stamp.1; node = node; kind = first; stamp = second; fields = third })))

head_line : (text : List ℕ) (head : Head) (fields : List Field) → IsUtf8 text → HeadBefore text head → fields_of head.fields ≡ Some fields → IsLine text (whole_line head fields)
head_line text head fields utf8 h found = record {
  node = h.node.node;
  blank = h.kind.blank;
  whole_seconds = h.stamp.parts.whole_seconds;
  thousandths = h.stamp.parts.thousandths;
  number = h.stamp.parts.number;
  tail = h.tail;
  utf8 = utf8;
  spelled = h.node.whole ∙ ap (λ l. h.node.node ++ l) (h.kind.whole ∙ ap (λ l. codes "type=" ++ (head.kind ++ h.kind.blank ∷ l)) (h.stamp.whole ∙ ap (λ l. codes "msg=audit(" ++ l) h.stamp.parts.whole));
  is_node = h.node.is_node;
  kind = h.kind.is_one;
  parted = h.kind.parted;
  seconds = h.stamp.parts.seconds;
  millis = h.stamp.parts.millis;
  serial = h.stamp.parts.serial;
  tail_parted = h.fields.parted;
  fields = h.fields.fields fields (fields_sound head.fields fields found);
}

with_sound : (text : List ℕ) (o : Option Head) → IsUtf8 text → IfSome o (HeadBefore text) → (line : AuditLine) → option_and_then with_fields o ≡ Some line → IsLine text line
with_sound text None utf8 h line is = absurd (cc)
with_sound text (Some head) utf8 h line is = by_fields (fields_of head.fields) refl is where
  by_fields : (o : Option (List Field)) → fields_of head.fields ≡ o → option_map (whole_line head) o ≡ Some line → IsLine text line
  by_fields None found is = absurd (cc)
  by_fields (Some fields) found is = let same : whole_line head fields ≡ line = cc in subst (IsLine text) same (head_line text head fields utf8 h found)

pub line_sound : (text : List ℕ) (line : AuditLine) → line_of text ≡ Some line → IsLine text line
unfolding line_of
line_sound text line is = by_utf8 (is_utf8 text) refl is where
  by_utf8 : (t : Bool) → is_utf8 text ≡ t → cond t (option_and_then with_fields (head_of text)) None ≡ Some line → IsLine text line
  by_utf8 true utf8 is = with_sound text (head_of text) (IsUtf8-from_is_utf8 text utf8) (head_sound text) line is
  by_utf8 false utf8 is = absurd (cc)

-- each part of the grammar is read

word_some : (word : List ℕ) → IsWord word → nat_le 1 (length word) ≡ true
word_some word is = let some = is.some in grind (arith, nat_tests, some)

node_read : (node rest : List ℕ) → IsNode node → unnamed (node ++ (codes "type=" ++ rest)) ≡ Some (codes "type=" ++ rest)
unfolding unnamed behind
node_read node rest no_node = refl
node_read node rest (a_node word blank is parted) =
    let tail = codes "type=" ++ rest in
    let whole : (word ++ blank ∷ []) ++ tail ≡ word ++ blank ∷ tail = append_assoc word (blank ∷ []) tail in
    let cut : around is_blank ((word ++ blank ∷ []) ++ tail) ≡ Some (word, tail) = ap (around is_blank) whole ∙ (cut_at is_blank word blank tail is.plain parted).both_are in
    ap behind_word cut ∙ ap (λ t. cond t (Some tail) None) (word_some word is)

-- what passes one test fails another
passes_lacks : (test : ℕ → Bool) (end : ℕ) → test end ≡ false → (text : List ℕ) → list_all test text ≡ true → lacks (is_byte end) text ≡ true
passes_lacks test end fails [] all = refl
passes_lacks test end fails (byte ∷ text) all =
    let parts = and_true (test byte) (list_all test text) all in
    let other : is_byte end byte ≡ false = false_from_ne_true (is_byte end byte) (λ is. let same : byte ≡ end = (Decides-eqb byte end).0 is in let t : true ≡ false = sym parts.0 ∙ ap test same ∙ fails in absurd (cc)) in
    rw other (passes_lacks test end fails text parts.1)

kind_no_blank : (byte : ℕ) → is_kind_byte byte ≡ true → is_blank byte ≡ false
kind_no_blank byte is = grind (arith, nat_tests, is)

kind_plain : (text : List ℕ) → list_all is_kind_byte text ≡ true → lacks is_blank text ≡ true
kind_plain [] all = refl
kind_plain (byte ∷ text) all =
    let parts = and_true (is_kind_byte byte) (list_all is_kind_byte text) all in
    rw (kind_no_blank byte parts.0) (kind_plain text parts.1)

kind_read : (kind : List ℕ) (blank : ℕ) (rest : List ℕ) → is_kind kind ≡ true → is_blank blank ≡ true → kind_at (codes "type=" ++ (kind ++ blank ∷ rest)) ≡ Some (kind, rest)
unfolding kind_at
kind_read kind blank rest is parted =
    ap (λ o. option_and_then checked_kind (option_and_then (around is_blank) o)) (behind_front (codes "type=") (kind ++ blank ∷ rest))
    ∙ ap (option_and_then checked_kind) (cut_at is_blank kind blank rest (kind_plain kind (and_true (nat_le 1 (length kind)) (list_all is_kind_byte kind) is).1) parted).both_are
    ∙ ap (λ t. cond t (Some (kind, rest)) None) is

number_of_read : (least most : ℕ) (digits : List ℕ) (number : ℕ) → 1 ≤ least → IsNumber least most digits number → number_of least most digits ≡ Some number
unfolding number_of
number_of_read least most digits number some is =
    let low = is.at_least in
    let high = is.at_most in
    let small : value_of digits < 2 ^ 64 = subst (λ (n : ℕ). n < 2 ^ 64) (sym is.value) is.small in
    let first : nat_le least (length digits) ≡ true = grind (arith, nat_tests, low) in
    let second : nat_le (length digits) most ≡ true = grind (arith, nat_tests, high) in
    let third : nat_le 1 (length digits) ≡ true = grind (arith, nat_tests, low, some) in
    let fourth : nat_lt (value_of digits) (2 ^ 64) ≡ true = grind (arith, nat_tests, small) in
    rw (first, second, third, is.decimal, fourth) (ap Some is.value)

digits_lack : (end : ℕ) → is_digit end ≡ false → (digits : List ℕ) → list_all is_digit digits ≡ true → lacks (is_byte end) digits ≡ true
digits_lack end other digits all = passes_lacks is_digit end other digits all

number_read : (least most end : ℕ) (digits rest : List ℕ) (number : ℕ) → 1 ≤ least → is_digit end ≡ false → IsNumber least most digits number → number_at least most end (digits ++ end ∷ rest) ≡ Some (number, rest)
unfolding number_at
number_read least most end digits rest number some other is =
    ap (option_and_then (λ parts. option_map (λ number. (number, parts.1)) (number_of least most parts.0))) (cut_at (is_byte end) digits end rest (digits_lack end other digits is.decimal) (same_byte end)).both_are
    ∙ ap (option_map (λ number. (number, rest))) (number_of_read least most digits number some is)

id_read : (seconds millis serial rest : List ℕ) (id : AuditId) → IsNumber 1 12 seconds id.seconds → IsNumber 3 3 millis id.millis → IsNumber 1 20 serial id.serial
    → id_at (seconds ++ 46 ∷ (millis ++ 58 ∷ (serial ++ 41 ∷ rest))) ≡ Some (id, rest)
unfolding id_at
id_read seconds millis serial rest id first second third =
    ap (option_and_then (λ seconds. option_and_then (λ millis. option_map (id_with seconds.0 millis.0) (number_at 1 20 41 millis.1)) (number_at 3 3 58 seconds.1)))
    (number_read 1 12 46 seconds (millis ++ 58 ∷ (serial ++ 41 ∷ rest)) id.seconds (omega arith) refl first)
    ∙ ap (option_and_then (λ millis. option_map (id_with id.seconds millis.0) (number_at 1 20 41 millis.1))) (number_read 3 3 58 millis (serial ++ 41 ∷ rest) id.millis (omega arith) refl second)
    ∙ ap (option_map (id_with id.seconds id.millis)) (number_read 1 20 41 serial rest id.serial (omega arith) refl third)

stamp_read : (seconds millis serial rest : List ℕ) (id : AuditId) → IsNumber 1 12 seconds id.seconds → IsNumber 3 3 millis id.millis → IsNumber 1 20 serial id.serial
    → stamp_at (codes "msg=audit(" ++ (seconds ++ 46 ∷ (millis ++ 58 ∷ (serial ++ 41 ∷ 58 ∷ rest)))) ≡ Some (id, rest)
unfolding stamp_at
stamp_read seconds millis serial rest id first second third =
    ap (λ o. option_and_then (λ id. option_map (λ rest. (id.0, rest)) (behind (codes ":") id.1)) (option_and_then id_at o))
    (behind_front (codes "msg=audit(") (seconds ++ 46 ∷ (millis ++ 58 ∷ (serial ++ 41 ∷ 58 ∷ rest))))
    ∙ ap (option_and_then (λ id. option_map (λ rest. (id.0, rest)) (behind (codes ":") id.1))) (id_read seconds millis serial (58 ∷ rest) id first second third)
    ∙ ap (option_map (λ rest. (id, rest))) (behind_front (codes ":") rest)

tail_read : (tail : List ℕ) (fields : List Field) → ends_word tail ≡ true → AreFields tail fields → option_and_then fields_of (fields_part tail) ≡ Some fields
tail_read [] fields parted are = fields_read [] fields are
tail_read (byte ∷ rest) fields parted are =
    ap (λ t. option_and_then fields_of (cond t (Some rest) None)) parted ∙ sym (blank_step (byte ∷ rest) (omega arith) parted) ∙ fields_read (byte ∷ rest) fields are

tail_line : (kind : List ℕ) (id : AuditId) (fields : List Field) (o : Option (List ℕ)) → option_and_then fields_of o ≡ Some fields
    → option_and_then with_fields (option_map (head_with kind id) o) ≡ Some (whole_line (head_with kind id []) fields)
tail_line kind id fields None found = absurd (cc)
tail_line kind id fields (Some rest) found = ap (option_map (whole_line (head_with kind id rest))) found

pub line_read : (text : List ℕ) (line : AuditLine) → IsLine text line → line_of text ≡ Some line
unfolding line_of head_of
line_read text line is =
    let stamp = codes "msg=audit(" ++ (is.whole_seconds ++ 46 ∷ (is.thousandths ++ 58 ∷ (is.number ++ 41 ∷ 58 ∷ is.tail))) in
    let rest = line.kind ++ is.blank ∷ stamp in
    let node : unnamed text ≡ Some (codes "type=" ++ rest) = ap unnamed is.spelled ∙ node_read is.node rest is.is_node in
    let utf8 : is_utf8 text ≡ true = is_utf8-from_IsUtf8 text is.utf8 in
    ap (λ t. cond t (option_and_then with_fields (head_of text)) None) utf8
    ∙ ap (λ o. option_and_then with_fields (option_and_then (λ kind. option_and_then (λ stamp. option_map (head_with kind.0 stamp.0) (fields_part stamp.1)) (stamp_at kind.1)) (option_and_then kind_at o))) node
    ∙ ap (λ o. option_and_then with_fields (option_and_then (λ kind. option_and_then (λ stamp. option_map (head_with kind.0 stamp.0) (fields_part stamp.1)) (stamp_at kind.1)) o)) (kind_read line.kind is.blank stamp is.kind is.parted)
    ∙ ap (λ o. option_and_then with_fields (option_and_then (λ stamp. option_map (head_with line.kind stamp.0) (fields_part stamp.1)) o)) (stamp_read is.whole_seconds is.thousandths is.number is.tail line.id is.seconds is.millis is.serial)
    ∙ tail_line line.kind line.id line.fields (fields_part is.tail) (tail_read is.tail line.fields is.tail_parted is.fields)

-- what a reader answers, in the words of the grammar

pub no_line : (text : List ℕ) → line_of text ≡ None → (line : AuditLine) → ¬ IsLine text line
no_line text none line is = let some = line_read text line is in absurd (cc)

pub ok_line : (text : List ℕ) (result : Result AuditLine AuditLineError) → Reads (line_of text) result → IfOk result (IsLine text)
ok_line text (Ok line) read = line_sound text line read
ok_line text (Err error) read = tt

pub bad_line : (text : List ℕ) (result : Result AuditLine AuditLineError) → Reads (line_of text) result → result ≡ Err fault.BadLine → (line : AuditLine) → ¬ IsLine text line
bad_line text (Ok line) read bad = absurd (cc)
bad_line text (Err fault.BadLine) read bad = no_line text read
bad_line text (Err fault.NoMemory) read bad = absurd (cc)

-- the same of a text, which has a line by its head
pub line_of_text : (text : List ℕ) → IsUtf8 text → line_of text ≡ option_and_then with_fields (head_of text)
unfolding line_of
line_of_text text utf8 = ap (λ t. cond t (option_and_then with_fields (head_of text)) None) (is_utf8-from_IsUtf8 text utf8)

pub line_of_bytes : (text : List ℕ) → ¬ IsUtf8 text → line_of text ≡ None
unfolding line_of
line_of_bytes text other = ap (λ t. cond t (option_and_then with_fields (head_of text)) None) (false_from_ne_true (is_utf8 text) (λ is. other (IsUtf8-from_is_utf8 text is)))
