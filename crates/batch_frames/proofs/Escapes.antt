-- Texts inside JSON strings, from their escapes.
use Rattle.std.proofs.Common.{◌≡◌, ℕ, ◌/◌, ◌%◌, ◌<◌, Bool, true, false, List, [], ◌∷◌, ◌++◌, refl, sym, subst, ap, ◌∙◌, append_assoc, append-nil, drop, ◌==◌, nat_lt}
use Rattle.std.specs.Prelude.{flat_map, ◌||◌}
use Rattle.std.specs.List.{list_any}
use Rattle.std.proofs.lemmas.Bool.{eqb-true, ltb-true, ne_eqb}
use Rattle.control_escapes.specs.Escapes.{hex_digit}
use Rattle.result_batches.specs.Json.{escaped, quoted}
use Rattle.batch_frames.specs.Escapes.{BeginsSpecial, is_special, meant}
use Rattle.batch_frames.proofs.Cuts.{none_passes, unlike_heads}

-- a byte that stands for itself
pub record IsSame (b : ℕ) : Type 0 where
  pub text : escaped b ≡ b ∷ []
  pub plain : is_special b ≡ false

-- a byte behind a backslash
pub record IsShort (b : ℕ) : Type 0 where
  pub letter : ℕ
  pub text : escaped b ≡ 92 ∷ letter ∷ []
  pub meaning : meant letter ≡ b
  pub other : (letter == 117) ≡ false

-- a number in four digits
pub record IsLong (b : ℕ) : Type 0 where
  pub text : escaped b ≡ 92 ∷ 117 ∷ 48 ∷ 48 ∷ hex_digit (b / 16) ∷ hex_digit (b % 16) ∷ []
  pub small : b < 32

pub data EscapeOf (b : ℕ) : Type 0 where
  same : IsSame b → EscapeOf b
  short : IsShort b → EscapeOf b
  long : IsLong b → EscapeOf b

by_letter : (b n letter : ℕ) → (b == n) ≡ true → escaped n ≡ 92 ∷ letter ∷ [] → meant letter ≡ n → (letter == 117) ≡ false → EscapeOf b
by_letter b n letter is text meaning other =
    subst EscapeOf (sym (eqb-true b n is)) (short (record { letter = letter; text = text; meaning = meaning; other = other }))

special_neither : (b : ℕ) → (b == 34) ≡ false → (b == 92) ≡ false → is_special b ≡ false
special_neither b h k = rw (h, k) refl

at_small : (b : ℕ) (t : Bool) → nat_lt b 32 ≡ t → (b == 34) ≡ false → (b == 92) ≡ false → (b == 8) ≡ false → (b == 9) ≡ false → (b == 10) ≡ false → (b == 12) ≡ false → (b == 13) ≡ false → EscapeOf b
at_small b true is a c d e f g h =
    long (record { text = rw (a, c, d, e, f, g, h, is) refl; small = ltb-true b 32 is })
at_small b false is a c d e f g h =
    same (record { text = rw (a, c, d, e, f, g, h, is) refl; plain = special_neither b a c })

at_13 : (b : ℕ) (t : Bool) → (b == 13) ≡ t → (b == 34) ≡ false → (b == 92) ≡ false → (b == 8) ≡ false → (b == 9) ≡ false → (b == 10) ≡ false → (b == 12) ≡ false → EscapeOf b
at_13 b true is a c d e f g = by_letter b 13 114 is refl refl refl
at_13 b false is a c d e f g = at_small b (nat_lt b 32) refl a c d e f g is

at_12 : (b : ℕ) (t : Bool) → (b == 12) ≡ t → (b == 34) ≡ false → (b == 92) ≡ false → (b == 8) ≡ false → (b == 9) ≡ false → (b == 10) ≡ false → EscapeOf b
at_12 b true is a c d e f = by_letter b 12 102 is refl refl refl
at_12 b false is a c d e f = at_13 b (b == 13) refl a c d e f is

at_10 : (b : ℕ) (t : Bool) → (b == 10) ≡ t → (b == 34) ≡ false → (b == 92) ≡ false → (b == 8) ≡ false → (b == 9) ≡ false → EscapeOf b
at_10 b true is a c d e = by_letter b 10 110 is refl refl refl
at_10 b false is a c d e = at_12 b (b == 12) refl a c d e is

at_9 : (b : ℕ) (t : Bool) → (b == 9) ≡ t → (b == 34) ≡ false → (b == 92) ≡ false → (b == 8) ≡ false → EscapeOf b
at_9 b true is a c d = by_letter b 9 116 is refl refl refl
at_9 b false is a c d = at_10 b (b == 10) refl a c d is

at_8 : (b : ℕ) (t : Bool) → (b == 8) ≡ t → (b == 34) ≡ false → (b == 92) ≡ false → EscapeOf b
at_8 b true is a c = by_letter b 8 98 is refl refl refl
at_8 b false is a c = at_9 b (b == 9) refl a c is

at_92 : (b : ℕ) (t : Bool) → (b == 92) ≡ t → (b == 34) ≡ false → EscapeOf b
at_92 b true is a = by_letter b 92 92 is refl refl refl
at_92 b false is a = at_8 b (b == 8) refl a is

at_34 : (b : ℕ) (t : Bool) → (b == 34) ≡ t → EscapeOf b
at_34 b true is = by_letter b 34 34 is refl refl refl
at_34 b false is = at_92 b (b == 92) refl is

-- how a byte is written
pub escape_of : (b : ℕ) → EscapeOf b
escape_of b = at_34 b (b == 34) refl

special : (c d : ℕ) → is_special c ≡ false → is_special d ≡ true → c ≡ d → ⊥
special c d isnt is e = let f : is_special c ≡ is_special d = ap is_special e in let bad : false ≡ true = sym isnt ∙ f ∙ is in let gone : ⊥ = cc in gone

-- a plain front of what stands inside a string is a front of its text
pub record Front (plain after more tail : List ℕ) : Type 0 where
  pub rest : List ℕ
  pub text : more ≡ plain ++ rest
  pub behind : after ≡ flat_map escaped rest ++ 34 ∷ tail

regrouped : (m : ℕ) (ms tail text : List ℕ) → escaped m ≡ text → flat_map escaped (m ∷ ms) ++ 34 ∷ tail ≡ text ++ (flat_map escaped ms ++ 34 ∷ tail)
regrouped m ms tail text is = append_assoc (escaped m) (flat_map escaped ms) (34 ∷ tail) ∙ ap (λ t. t ++ (flat_map escaped ms ++ 34 ∷ tail)) is

pub front : (plain after more tail : List ℕ) → list_any is_special plain ≡ false → plain ++ after ≡ flat_map escaped more ++ 34 ∷ tail → Front plain after more tail
front [] after more tail none e = record { rest = more; text = refl; behind = e }
front (c ∷ cs) after [] tail none e = absurd (special c 34 ((none_passes is_special c cs none).0) refl (let is : c ≡ 34 = cc in is))
front (c ∷ cs) after (m ∷ ms) tail none e =
    elim (escape_of m) [
      | same h ↦
          let whole : c ∷ (cs ++ after) ≡ m ∷ (flat_map escaped ms ++ 34 ∷ tail) = e ∙ regrouped m ms tail (m ∷ []) h.text in
          let first : c ≡ m = cc in
          let others : cs ++ after ≡ flat_map escaped ms ++ 34 ∷ tail = cc in
          let found = front cs after ms tail ((none_passes is_special c cs none).1) others in
          record { rest = found.rest; text = (let t : ms ≡ cs ++ found.rest = found.text in cc); behind = found.behind }
      | short h ↦
          let whole : c ∷ (cs ++ after) ≡ 92 ∷ h.letter ∷ (flat_map escaped ms ++ 34 ∷ tail) = e ∙ regrouped m ms tail (92 ∷ h.letter ∷ []) h.text in
          absurd (special c 92 ((none_passes is_special c cs none).0) refl (let is : c ≡ 92 = cc in is))
      | long h ↦
          let whole : c ∷ (cs ++ after) ≡ 92 ∷ 117 ∷ 48 ∷ 48 ∷ hex_digit (m / 16) ∷ hex_digit (m % 16) ∷ (flat_map escaped ms ++ 34 ∷ tail) = e ∙ regrouped m ms tail (92 ∷ 117 ∷ 48 ∷ 48 ∷ hex_digit (m / 16) ∷ hex_digit (m % 16) ∷ []) h.text in
          absurd (special c 92 ((none_passes is_special c cs none).0) refl (let is : c ≡ 92 = cc in is))
    ]

first_is_no_quote : (m : ℕ) (behind rest : List ℕ) → 34 ∷ behind ≡ escaped m ++ rest → ⊥
first_is_no_quote m behind rest e =
    elim (escape_of m) [
      | same h ↦
          let whole : 34 ∷ behind ≡ m ∷ rest = e ∙ ap (λ t. t ++ rest) h.text in
          special m 34 h.plain refl (let is : m ≡ 34 = cc in is)
      | short h ↦ let whole : 34 ∷ behind ≡ 92 ∷ h.letter ∷ rest = e ∙ ap (λ t. t ++ rest) h.text in let no : ⊥ = cc in no
      | long h ↦
          let whole : 34 ∷ behind ≡ 92 ∷ 117 ∷ 48 ∷ 48 ∷ hex_digit (m / 16) ∷ hex_digit (m % 16) ∷ rest = e ∙ ap (λ t. t ++ rest) h.text in
          let no : ⊥ = cc in
          no
    ]

-- the quote that closes a string
pub closes : (more tail behind : List ℕ) → 34 ∷ behind ≡ flat_map escaped more ++ 34 ∷ tail → (more ≡ []) × (behind ≡ tail)
closes [] tail behind e = (refl, (let is : behind ≡ tail = cc in is))
closes (m ∷ ms) tail behind e = absurd (first_is_no_quote m behind (flat_map escaped ms ++ 34 ∷ tail) (e ∙ regrouped m ms tail (escaped m) refl))

-- the backslash of a byte
pub record Escape (escape : ℕ → List ℕ) (more tail behind : List ℕ) : Type 0 where
  pub byte : ℕ
  pub rest : List ℕ
  pub text : more ≡ byte ∷ rest
  pub is : 92 ∷ behind ≡ escape byte ++ (flat_map escape rest ++ 34 ∷ tail)

escapes_by : (escape : ℕ → List ℕ) (more tail behind : List ℕ) → 92 ∷ behind ≡ flat_map escape more ++ 34 ∷ tail → Escape escape more tail behind
escapes_by escape [] tail behind e = absurd (unlike_heads 92 34 behind tail e refl)
escapes_by escape (m ∷ ms) tail behind e = record { byte = m; rest = ms; text = refl; is = e ∙ append_assoc (escape m) (flat_map escape ms) (34 ∷ tail) }

pub escapes : (more tail behind : List ℕ) → 92 ∷ behind ≡ flat_map escaped more ++ 34 ∷ tail → Escape escaped more tail behind
escapes more tail behind e = escapes_by escaped more tail behind e

second_true : (a b : Bool) → (a || b) ≡ true → a ≡ false → b ≡ true
second_true true b h isnt = absurd (let gone : ⊥ = cc in gone)
second_true false b h isnt = h

is_slash : (byte : ℕ) → is_special byte ≡ true → (byte ≡ 34 → ⊥) → byte ≡ 92
is_slash byte passes isnt = eqb-true byte 92 (second_true (byte == 34) (byte == 92) passes (ne_eqb byte 34 isnt))

regroup : (a : List ℕ) (m : ℕ) (b c : List ℕ) → a ++ (m ∷ (b ++ c)) ≡ ((a ++ m ∷ []) ++ b) ++ c
regroup a m b c = simp append_assoc

-- one escape and the plain bytes behind it
pub read_more : (inside rest text tail behind other plain after inside2 : List ℕ) (byte meaning : ℕ) → Front inside rest text tail → rest ≡ byte ∷ behind → BeginsSpecial rest → (byte ≡ 34 → ⊥)
    → ((b : ℕ) (r : List ℕ) → 92 ∷ behind ≡ escaped b ++ r → (meaning ≡ b) × (other ≡ r)) → other ≡ plain ++ after → list_any is_special plain ≡ false
    → inside2 ≡ (inside ++ meaning ∷ []) ++ plain → Front inside2 after text tail
read_more inside rest text tail behind other plain after inside2 byte meaning before at stops no_quote unescaped whole none pushed =
    let slash : byte ≡ 92 = is_slash byte (subst BeginsSpecial at stops) no_quote in
    let e = escapes before.rest tail behind (ap (λ b. b ∷ behind) (sym slash) ∙ sym at ∙ before.behind) in
    let u = unescaped e.byte (flat_map escaped e.rest ++ 34 ∷ tail) e.is in
    let f = front plain after e.rest tail none (sym whole ∙ u.1) in
    record {
      rest = f.rest;
      text =
          before.text ∙ ap (λ m. inside ++ m) (e.text ∙ ap (λ b. b ∷ e.rest) (sym u.0) ∙ ap (λ m. meaning ∷ m) f.text)
          ∙ regroup inside meaning plain f.rest ∙ ap (λ i. i ++ f.rest) (sym pushed);
      behind = f.behind;
    }

pub read_all : (inside rest text tail behind : List ℕ) (byte : ℕ) → Front inside rest text tail → rest ≡ byte ∷ behind → byte ≡ 34 → (inside ≡ text) × (behind ≡ tail)
read_all inside rest text tail behind byte before at quote =
    let c = closes before.rest tail behind (ap (λ b. b ∷ behind) (sym quote) ∙ sym at ∙ before.behind) in
    (sym (before.text ∙ ap (λ m. inside ++ m) c.0 ∙ append-nil inside), c.1)

-- what stands behind the quote that opens a string
pub string_is : (bytes string value behind : List ℕ) → string ≡ drop 1 bytes → bytes ≡ quoted value ++ behind → string ≡ flat_map escaped value ++ 34 ∷ behind
string_is bytes string value behind is e = is ∙ ap (drop 1) e ∙ append_assoc (flat_map escaped value) (34 ∷ []) behind

-- a string without escapes
pub plain_is : (string plain rest after value behind : List ℕ) → string ≡ plain ++ rest → list_any is_special plain ≡ false → rest ≡ 34 ∷ after
    → string ≡ flat_map escaped value ++ 34 ∷ behind → (plain ≡ value) × (after ≡ behind)
plain_is string plain rest after value behind whole none at is =
    let f = front plain rest value behind none (sym whole ∙ is) in
    let c = closes f.rest behind after (sym at ∙ f.behind) in
    (sym (f.text ∙ ap (λ m. plain ++ m) c.0 ∙ append-nil plain), c.1)
