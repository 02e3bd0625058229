-- Characters that an ASCII sign doesn't fit can be left out at the front of a text.
use Rattle.std.proofs.Common.{◌≡◌, ◌≢◌, ℕ, suc, ◌+◌, ◌<◌, ◌==◌, ◌||◌, ◌&&◌, ◌⊎◌, inl, inr, ⊎_elim, Bool, true, false, List, [], ◌∷◌, ◌++◌, length, take, drop, refl, ap, sym, subst, ◌∙◌, arith, eqb-true, eq-eqb, get_or-take, take-append-drop, append-nil, length-take, length-append, length-drop, get_or-append-add, drop-cons, drop-drop, get_or-drop}
use Rattle.std.specs.Prelude.{slice_index}
use Rattle.std.specs.Char.{to_ascii_lowercase, to_ascii_uppercase, encode_utf8}
use Rattle.std.specs.Str.{chars, IsUtf8, IsCharBoundary, NonePass, encode_utf8_all}
use Rattle.std.proofs.lemmas.Bool.{false_from_ne_true, cases_lt, or_right, or_left}
use Rattle.std.proofs.lemmas.Str.{chars-append, chars-nil, chars_past_char, IsUtf8-drop, encodes-chars, encode_ascii, IsCharBoundary-before_ascii, IsCharBoundary-after_ascii, IsUtf8-take}
use Rattle.std.proofs.lemmas.Str.Ascii.{lowercase_is, uppercase_is, lowercase_ascii, uppercase_ascii}
use Rattle.memchr.specs.Find.{Nowhere, Passes, NoneBefore, is_byte, is_byte2}
use Rattle.sql_scalar.specs.Likeness.{somewhere, one_and, fits_one, is_like}
use Rattle.sql_scalar.specs.Pieces.{IsEnd, Lacks}
use Rattle.sql_scalar.proofs.Retries.{as_one, somewhere-alike}

-- the byte of a sign in either case
abbrev pub in_either_case : ℕ → ℕ → Bool
in_either_case sign byte = is_byte2 (to_ascii_lowercase sign) (to_ascii_uppercase sign) byte

same_letter : (sign char : ℕ) → sign ≢ 95 → fits_one sign char ≡ true → to_ascii_lowercase sign ≡ to_ascii_lowercase char
same_letter sign char plain fits = by (sign == 95) refl where
  by : (b : Bool) → (sign == 95) ≡ b → to_ascii_lowercase sign ≡ to_ascii_lowercase char
  by true e = absurd (plain (eqb-true sign 95 e))
  by false e = eqb-true _ _ (sym (ap (λ b. b || (to_ascii_lowercase sign == to_ascii_lowercase char)) e) ∙ fits)

either_case : (sign char : ℕ) → to_ascii_lowercase sign ≡ to_ascii_lowercase char
    → (char ≡ to_ascii_lowercase sign) ⊎ (char ≡ to_ascii_uppercase sign)
either_case sign char same =
    let low = lowercase_is sign in
    let up = uppercase_is sign in
    let other = lowercase_is char in
    ⊎_elim (λ l. inl (sym (other.1 l) ∙ sym same))
    (λ l. ⊎_elim
    (λ m. inr (
    ⊎_elim (λ n. absurd (omega (arith, same, low.1 n, other.0 (l, omega arith))))
    (λ n. ⊎_elim
    (λ o. omega (arith, same, low.0 (n, omega arith), other.0 (l, omega arith), up.1 (omega arith)))
    (λ o. omega (arith, same, low.2 (omega arith), other.0 (l, omega arith), up.0 (omega (arith, same, low.2 (omega arith), other.0 (l, omega arith)), omega (arith, same, low.2 (omega arith), other.0 (l, omega arith)))))
    (cases_lt sign 91))
    (cases_lt sign 65)
    ))
    (λ m. inl (sym (other.2 (omega arith)) ∙ sym same))
    (cases_lt char 91))
    (cases_lt char 65)

in_case : (sign char : ℕ) → sign ≢ 95 → fits_one sign char ≡ true → in_either_case sign char ≡ true
in_case sign char plain fits =
    ⊎_elim (λ e. or_left (char == to_ascii_lowercase sign) (char == to_ascii_uppercase sign) (eq-eqb _ _ e))
    (λ e. or_right (char == to_ascii_lowercase sign) (char == to_ascii_uppercase sign) (eq-eqb _ _ e))
    (either_case sign char (same_letter sign char plain fits))

ascii_char : (sign char : ℕ) → sign < 128 → sign ≢ 95 → fits_one sign char ≡ true → char < 128
ascii_char sign char ascii plain fits =
    ⊎_elim (λ e. omega (arith, e, lowercase_ascii sign ascii)) (λ e. omega (arith, e, uppercase_ascii sign ascii))
    (either_case sign char (same_letter sign char plain fits))

-- a sign whose byte stands nowhere in the bytes of some characters fits none of them
none_fits : (sign : ℕ) → sign < 128 → sign ≢ 95 → (cs : List ℕ)
    → Nowhere (Passes (in_either_case sign) (encode_utf8_all cs)) 0 (length (encode_utf8_all cs)) → NonePass (fits_one sign) cs
none_fits sign ascii plain [] nowhere = tt
none_fits sign ascii plain (char ∷ cs) nowhere = (
  (false_from_ne_true (fits_one sign char) (λ fits.
      let alone : encode_utf8 char ≡ char ∷ [] = encode_ascii char (ascii_char sign char ascii plain fits) in
      let first : slice_index (encode_utf8 char ++ encode_utf8_all cs) 0 ≡ char = ap (λ l. slice_index (l ++ encode_utf8_all cs) 0) alone in
      nowhere 0 (omega arith) (omega (arith, ap length alone, length-append (encode_utf8 char) (encode_utf8_all cs)))
      (ap (in_either_case sign) first ∙ in_case sign char plain fits))),
  none_fits sign ascii plain cs (λ k low within passes.
      nowhere (length (encode_utf8 char) + k) (omega arith) (omega (arith, within, length-append (encode_utf8 char) (encode_utf8_all cs)))
      (ap (in_either_case sign) (get_or-append-add (encode_utf8 char) (encode_utf8_all cs) k 0) ∙ passes)),
)

behind_others : (sign : ℕ) (test : List ℕ → Bool) (front back : List ℕ) → NonePass (fits_one sign) front
    → somewhere (one_and sign test) (front ++ back) ≡ somewhere (one_and sign test) back
behind_others sign test [] back none = refl
behind_others sign test (char ∷ front) back none =
    ap (λ b. (b && test (front ++ back)) || somewhere (one_and sign test) (front ++ back)) none.0 ∙ behind_others sign test front back none.1

behind_front : (sign : ℕ) (test : List ℕ → Bool) (front back : List ℕ) → sign < 128 → sign ≢ 95 → IsUtf8 front
    → Nowhere (Passes (in_either_case sign) front) 0 (length front)
    → somewhere (one_and sign test) (chars (front ++ back)) ≡ somewhere (one_and sign test) (chars back)
behind_front sign test front back ascii plain told nowhere =
    ap (somewhere (one_and sign test)) (chars-append front back told)
    ∙ behind_others sign test (chars front) (chars back) (none_fits sign ascii plain (chars front)
    (subst (λ l. Nowhere (Passes (in_either_case sign) l) 0 (length l)) (sym (encodes-chars front told)) nowhere))

nowhere_before : (test : ℕ → Bool) (text : List ℕ) (at : ℕ) → at < length text → Nowhere (Passes test text) 0 at
    → Nowhere (Passes test (take at text)) 0 (length (take at text))
nowhere_before test text at within nowhere k low below passes =
    let size = length-take at text in
    let before : k < at = omega (arith, below, size) in
    nowhere k low before (sym (ap test (get_or-take at text k 0 before)) ∙ passes)

low_byte : (sign byte : ℕ) → sign < 128 → in_either_case sign byte ≡ true → byte < 128
low_byte sign byte ascii passes = by (byte == to_ascii_lowercase sign) refl where
  by : (b : Bool) → (byte == to_ascii_lowercase sign) ≡ b → byte < 128
  by true e = omega (arith, eqb-true byte (to_ascii_lowercase sign) e, lowercase_ascii sign ascii)
  by false e = omega (
    arith,
    uppercase_ascii sign ascii,
    eqb-true byte (to_ascii_uppercase sign) (sym (ap (λ b. b || (byte == to_ascii_uppercase sign)) e) ∙ passes),
  )

-- the sign's byte stands at a place and not before
pub skip_to_place : (sign lower upper : ℕ) (test : List ℕ → Bool) (bytes text back : List ℕ) (at : ℕ) → sign < 128 → sign ≢ 95 → IsUtf8 text
    → lower ≡ to_ascii_lowercase sign → upper ≡ to_ascii_uppercase sign → bytes ≡ text
    → NoneBefore (Passes (is_byte2 lower upper) bytes) 0 (length bytes) at × Passes (is_byte2 lower upper) bytes at
    → back ≡ drop at text
    → somewhere (one_and sign test) (chars text) ≡ somewhere (one_and sign test) (chars back)
skip_to_place sign lower upper test bytes text back at ascii plain told is_lower is_upper same found is =
    let Found : (ℕ → Bool) → List ℕ → Type 0 = λ passes t. NoneBefore (Passes passes t) 0 (length t) at × Passes passes t at in
    let found' : Found (in_either_case sign) text =
    subst (λ u. Found (is_byte2 (to_ascii_lowercase sign) u) text) is_upper
    (subst (λ l. Found (is_byte2 l upper) text) is_lower (subst (Found (is_byte2 lower upper)) same found)) in
    let low : slice_index text at < 128 = low_byte sign (slice_index text at) ascii found'.1 in
    ap (λ t. somewhere (one_and sign test) (chars t)) (sym (take-append-drop at text))
    ∙ behind_front sign test (take at text) (drop at text) ascii plain
    (IsUtf8-take text at told (IsCharBoundary-before_ascii text at found'.0.high low))
    (nowhere_before (in_either_case sign) text at found'.0.high found'.0.before)
    ∙ ap (λ t. somewhere (one_and sign test) (chars t)) (sym is)

-- the sign's byte stands nowhere
pub skip_all : (sign lower upper : ℕ) (test : List ℕ → Bool) (bytes text : List ℕ) → sign < 128 → sign ≢ 95 → IsUtf8 text
    → lower ≡ to_ascii_lowercase sign → upper ≡ to_ascii_uppercase sign → bytes ≡ text
    → Nowhere (Passes (is_byte2 lower upper) bytes) 0 (length bytes)
    → somewhere (one_and sign test) (chars text) ≡ somewhere (one_and sign test) (chars [])
skip_all sign lower upper test bytes text ascii plain told is_lower is_upper same nowhere =
    let Missing : (ℕ → Bool) → List ℕ → Type 0 = λ passes t. Nowhere (Passes passes t) 0 (length t) in
    let nowhere' : Missing (in_either_case sign) text =
    subst (λ u. Missing (is_byte2 (to_ascii_lowercase sign) u) text) is_upper
    (subst (λ l. Missing (is_byte2 l upper) text) is_lower (subst (Missing (is_byte2 lower upper)) same nowhere)) in
    ap (λ t. somewhere (one_and sign test) (chars t)) (sym (append-nil text)) ∙ behind_front sign test text [] ascii plain told nowhere'

-- a piece that begins with the sign
pub skip_of_piece : (sign : ℕ) (others piece text back : List ℕ) → piece ≡ sign ∷ others → Lacks 37 piece
    → ((test : List ℕ → Bool) → somewhere (one_and sign test) text ≡ somewhere (one_and sign test) back)
    → (rest : List ℕ) → somewhere (is_like (piece ++ 37 ∷ rest)) text ≡ somewhere (is_like (piece ++ 37 ∷ rest)) back
skip_of_piece sign others piece text back is plain same rest =
    let behind = others ++ 37 ∷ rest in
    let one = as_one sign behind (subst (Lacks 37) is plain).0 in
    ap (λ p. somewhere (is_like (p ++ 37 ∷ rest)) text) is
    ∙ somewhere-alike (is_like (sign ∷ behind)) (one_and sign (is_like behind)) one text
    ∙ same (is_like behind)
    ∙ sym (somewhere-alike (is_like (sign ∷ behind)) (one_and sign (is_like behind)) one back)
    ∙ ap (λ p. somewhere (is_like (p ++ 37 ∷ rest)) back) (sym is)

pub split_end : (text front back : List ℕ) (at : ℕ) → IsUtf8 front → front ≡ take at text → back ≡ drop at text → IsEnd (chars text) (chars back)
split_end text front back at told is_front is_back = (
  chars front,
  ap chars (sym (take-append-drop at text)) ∙ ap (λ l. chars (l ++ drop at text)) (sym is_front)
      ∙ ap (λ l. chars (front ++ l)) (sym is_back) ∙ chars-append front back told,
)

pub nothing_end : (text : List ℕ) → IsEnd (chars text) (chars [])
nothing_end text = (chars text, sym (ap (λ l. chars text ++ l) chars-nil ∙ append-nil (chars text)))

-- a sign whose byte stands nowhere in the bytes of some characters is none of them
none_is : (sign : ℕ) → sign < 128 → (cs : List ℕ) → Nowhere (Passes (is_byte sign) (encode_utf8_all cs)) 0 (length (encode_utf8_all cs)) → Lacks sign cs
none_is sign ascii [] nowhere = tt
none_is sign ascii (char ∷ cs) nowhere = (
  (false_from_ne_true (char == sign) (λ is.
      let same : char ≡ sign = eqb-true char sign is in
      let alone : encode_utf8 char ≡ char ∷ [] = encode_ascii char (omega (arith, same, ascii)) in
      let first : slice_index (encode_utf8 char ++ encode_utf8_all cs) 0 ≡ char = ap (λ l. slice_index (l ++ encode_utf8_all cs) 0) alone in
      nowhere 0 (omega arith) (omega (arith, ap length alone, length-append (encode_utf8 char) (encode_utf8_all cs)))
      (ap (is_byte sign) first ∙ is))),
  none_is sign ascii cs (λ k low within passes.
      nowhere (length (encode_utf8 char) + k) (omega arith) (omega (arith, within, length-append (encode_utf8 char) (encode_utf8_all cs)))
      (ap (is_byte sign) (get_or-append-add (encode_utf8 char) (encode_utf8_all cs) k 0) ∙ passes)),
)

pub lacks_byte : (sign : ℕ) (text bytes : List ℕ) → sign < 128 → IsUtf8 text → bytes ≡ text
    → Nowhere (Passes (is_byte sign) bytes) 0 (length bytes) → Lacks sign (chars text)
lacks_byte sign text bytes ascii told same nowhere =
    none_is sign ascii (chars text)
    (subst (λ l. Nowhere (Passes (is_byte sign) l) 0 (length l)) (same ∙ sym (encodes-chars text told)) nowhere)

-- a text parted at the first place of a sign
pub split_at_place : (sign : ℕ) (text bytes front back others : List ℕ) (at : ℕ) → sign < 128 → IsUtf8 text → bytes ≡ text
    → NoneBefore (Passes (is_byte sign) bytes) 0 (length bytes) at × Passes (is_byte sign) bytes at
    → front ≡ take at text → back ≡ drop at text → others ≡ drop 1 back
    → (chars text ≡ chars front ++ sign ∷ chars others) × Lacks sign (chars front) × (length others < length text)
split_at_place sign text bytes front back others at ascii told same found' is_front is_back is_others =
    let found : NoneBefore (Passes (is_byte sign) text) 0 (length text) at × Passes (is_byte sign) text at =
    subst (λ l. NoneBefore (Passes (is_byte sign) l) 0 (length l) at × Passes (is_byte sign) l at) same found' in
    let within = found.0.high in
    let byte : slice_index text at ≡ sign = eqb-true (slice_index text at) sign found.1 in
    let low : slice_index text at < 128 = omega (arith, byte, ascii) in
    let boundary = IsCharBoundary-before_ascii text at within low in
    let front_told : IsUtf8 (take at text) = IsUtf8-take text at told boundary in
    let rest : others ≡ drop (at + 1) text = is_others ∙ ap (drop 1) is_back ∙ drop-drop 1 at text in
    let cons : drop at text ≡ slice_index text at ∷ drop (at + 1) text =
    drop-cons text at 0 within ∙ ap (λ n. slice_index text at ∷ drop n text) (let next : suc at ≡ at + 1 = omega arith in next) in
    let split : drop at text ≡ encode_utf8 sign ++ others =
    cons ∙ ap (λ b. b ∷ drop (at + 1) text) byte ∙ ap (λ l. sign ∷ l) (sym rest)
    ∙ ap (λ l. l ++ others) (sym (encode_ascii sign ascii)) in (
      ap chars (sym (take-append-drop at text)) ∙ chars-append (take at text) (drop at text) front_told
          ∙ ap (λ l. chars (take at text) ++ l) (chars_past_char (drop at text) others sign (IsUtf8-drop text at told boundary) split)
          ∙ ap (λ l. chars l ++ sign ∷ chars others) (sym is_front),
      subst (λ l. Lacks sign (chars l)) (sym is_front)
          (lacks_byte sign (take at text) (take at text) ascii front_told refl (nowhere_before (is_byte sign) text at within found.0.before)),
      omega (arith, ap length rest, length-drop (at + 1) text, within),
    )

-- it may be parted behind the sign too
pub boundary_behind : (sign : ℕ) (text bytes back : List ℕ) (at : ℕ) → sign < 128 → IsUtf8 back → bytes ≡ text
    → NoneBefore (Passes (is_byte sign) bytes) 0 (length bytes) at × Passes (is_byte sign) bytes at → back ≡ drop at text → IsCharBoundary back 1
boundary_behind sign text bytes back at ascii told same found is_back =
    let byte : slice_index back 0 ≡ sign =
    ap (λ l. slice_index l 0) is_back ∙ get_or-drop at text 0 0 ∙ ap (slice_index text) (let none : at + 0 ≡ at = omega arith in none)
    ∙ ap (λ l. slice_index l at) (sym same) ∙ eqb-true (slice_index bytes at) sign found.1 in
    let within : 0 < length back = omega (arith, ap length is_back, length-drop at text, found.0.high, ap length same) in
    let low : slice_index back 0 < 128 = omega (arith, byte, ascii) in
    IsCharBoundary-after_ascii back 0 told within low
