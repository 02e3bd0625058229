-- A pattern and a text in lower case are alike exactly where they are alike as they stand.
use Rattle.std.proofs.Common.{◌≡◌, ℕ, ◌<◌, ◌≤◌, ◌==◌, ◌||◌, ◌&&◌, ◌⊎◌, inl, inr, ⊎_elim, Bool, true, false, List, [], ◌∷◌, ◌++◌, map, length, slice_index, append-nil, refl, ap, sym, subst, ◌∙◌, arith, eqb-true, eq-eqb}
use Rattle.std.specs.Char.{to_ascii_lowercase, encode_utf8}
use Rattle.std.specs.Str.{chars, IsUtf8, encode_utf8_all}
use Rattle.std.proofs.lemmas.Bool.{cases_lt}
use Rattle.std.proofs.lemmas.Str.{chars_from_encodes, encodes-chars, encode_ascii, inside_one}
use Rattle.std.proofs.lemmas.Str.Ascii.{lowercase_is, lowercase_ascii, lowercase-lowercase}
use Rattle.std.proofs.lemmas.List.{map-append, length-map, ext_get_or, get_or-map}
use Rattle.sql_scalar.specs.Likeness.{somewhere, one_and, fits_one, is_empty, is_like}
use Rattle.sql_scalar.specs.Pieces.{IsLower}
use Rattle.sql_scalar.proofs.PieceFits.{equal_by}
use Rattle.sql_scalar.proofs.Retries.{as_one}

-- the bytes of a character that isn't ASCII aren't ASCII, so they stay
byte_stays : (char k : ℕ) → 128 ≤ char → k < length (encode_utf8 char)
    → to_ascii_lowercase (slice_index (encode_utf8 char) k) ≡ slice_index (encode_utf8 char) k
byte_stays char k wide within =
    let bytes = encode_utf8 char in
    ⊎_elim
    (λ low. absurd (
    let same : char ≡ slice_index bytes k = inside_one char [] bytes k (sym (append-nil bytes)) within low in
    let no : ⊥ = omega (arith, same, low, wide) in no))
    (λ high. (lowercase_is (slice_index bytes k)).2 (omega (arith, high)))
    (cases_lt (slice_index bytes k) 128)

bytes_stay : (char : ℕ) → 128 ≤ char → map to_ascii_lowercase (encode_utf8 char) ≡ encode_utf8 char
bytes_stay char wide =
    let bytes = encode_utf8 char in
    ext_get_or 0 (map to_ascii_lowercase bytes) bytes (length-map bytes to_ascii_lowercase) (λ k within.
    let inside : k < length bytes = omega (arith, within, length-map bytes to_ascii_lowercase) in
    let mapped : slice_index (map to_ascii_lowercase bytes) k ≡ to_ascii_lowercase (slice_index bytes k) =
    get_or-map to_ascii_lowercase bytes k 0 0 inside in
    mapped ∙ byte_stays char k wide inside)

char_lower : (char : ℕ) → encode_utf8 (to_ascii_lowercase char) ≡ map to_ascii_lowercase (encode_utf8 char)
char_lower char =
    ⊎_elim
    (λ low. encode_ascii (to_ascii_lowercase char) (lowercase_ascii char low) ∙ ap (map to_ascii_lowercase) (sym (encode_ascii char low)))
    (λ wide. ap encode_utf8 ((lowercase_is char).2 (omega (arith, wide))) ∙ sym (bytes_stay char wide))
    (cases_lt char 128)

spelled_lower : (cs : List ℕ) → encode_utf8_all (map to_ascii_lowercase cs) ≡ map to_ascii_lowercase (encode_utf8_all cs)
spelled_lower [] = refl
spelled_lower (char ∷ cs) =
    ap (λ l. l ++ encode_utf8_all (map to_ascii_lowercase cs)) (char_lower char)
    ∙ ap (λ l. map to_ascii_lowercase (encode_utf8 char) ++ l) (spelled_lower cs)
    ∙ sym (map-append to_ascii_lowercase (encode_utf8 char) (encode_utf8_all cs))

-- the characters of a text in lower case
chars_lower : (text lower : List ℕ) → IsUtf8 text → IsUtf8 lower → lower ≡ map to_ascii_lowercase text
    → chars lower ≡ map to_ascii_lowercase (chars text)
chars_lower text lower told lower_told is =
    sym (chars_from_encodes (map to_ascii_lowercase (chars text)) lower lower_told
    (spelled_lower (chars text) ∙ ap (map to_ascii_lowercase) (encodes-chars text told) ∙ sym is))

are_lower : (cs : List ℕ) → IsLower (map to_ascii_lowercase cs)
are_lower [] = tt
are_lower (char ∷ cs) = (lowercase-lowercase char, are_lower cs)

pub lower_chars : (text lower : List ℕ) → IsUtf8 text → IsUtf8 lower → lower ≡ map to_ascii_lowercase text → IsLower (chars lower)
lower_chars text lower told lower_told is = subst IsLower (sym (chars_lower text lower told lower_told is)) (are_lower (chars text))

-- a sign that is no letter is told from others in either case
no_letter : (sign kind : ℕ) → (kind < 65) ⊎ ((90 < kind) × (kind < 97)) → (to_ascii_lowercase sign == kind) ≡ (sign == kind)
no_letter sign kind away =
    let case = lowercase_is sign in
    equal_by _ _
    (λ e. let is = eqb-true _ _ e in eq-eqb _ _ (
    ⊎_elim (λ l. sym (case.1 l) ∙ is)
    (λ l. ⊎_elim
    (λ m. absurd (⊎_elim (λ a. omega (arith, a, is, case.0 (l, omega arith))) (λ a. omega (arith, a.0, a.1, is, case.0 (l, omega arith))) away))
    (λ m. sym (case.2 (omega arith)) ∙ is)
    (cases_lt sign 91))
    (cases_lt sign 65)))
    (λ e. let is = eqb-true _ _ e in eq-eqb _ _ (
    ⊎_elim (λ a. case.1 (omega (arith, a, is)) ∙ is) (λ a. case.2 (omega (arith, a.0, is)) ∙ is) away))

fits_lower : (sign char : ℕ) → fits_one (to_ascii_lowercase sign) (to_ascii_lowercase char) ≡ fits_one sign char
fits_lower sign char =
    ap (λ b. b || (to_ascii_lowercase (to_ascii_lowercase sign) == to_ascii_lowercase (to_ascii_lowercase char)))
    (no_letter sign 95 (inr (omega arith, omega arith)))
    ∙ ap (λ c. (sign == 95) || (c == to_ascii_lowercase (to_ascii_lowercase char))) (lowercase-lowercase sign)
    ∙ ap (λ c. (sign == 95) || (to_ascii_lowercase sign == c)) (lowercase-lowercase char)

somewhere_lower : (f g : List ℕ → Bool) → ((text : List ℕ) → f (map to_ascii_lowercase text) ≡ g text)
    → (text : List ℕ) → somewhere f (map to_ascii_lowercase text) ≡ somewhere g text
somewhere_lower f g same [] = same []
somewhere_lower f g same (char ∷ rest) =
    ap (λ b. b || somewhere f (map to_ascii_lowercase rest)) (same (char ∷ rest))
    ∙ ap (λ b. g (char ∷ rest) || b) (somewhere_lower f g same rest)

one_lower : (sign : ℕ) (f g : List ℕ → Bool) → ((text : List ℕ) → f (map to_ascii_lowercase text) ≡ g text)
    → (text : List ℕ) → one_and (to_ascii_lowercase sign) f (map to_ascii_lowercase text) ≡ one_and sign g text
one_lower sign f g same [] = refl
one_lower sign f g same (char ∷ rest) =
    ap (λ b. b && f (map to_ascii_lowercase rest)) (fits_lower sign char) ∙ ap (λ b. fits_one sign char && b) (same rest)

empty_lower : (text : List ℕ) → is_empty (map to_ascii_lowercase text) ≡ is_empty text
empty_lower [] = refl
empty_lower (char ∷ rest) = refl

like_lower : (pattern text : List ℕ) → is_like (map to_ascii_lowercase pattern) (map to_ascii_lowercase text) ≡ is_like pattern text
like_lower [] text = empty_lower text
like_lower (sign ∷ pattern) text = by (sign == 37) refl (like_lower pattern) where
  by : (b : Bool) → (sign == 37) ≡ b
      → ((rest : List ℕ) → is_like (map to_ascii_lowercase pattern) (map to_ascii_lowercase rest) ≡ is_like pattern rest)
      → is_like (to_ascii_lowercase sign ∷ map to_ascii_lowercase pattern) (map to_ascii_lowercase text) ≡ is_like (sign ∷ pattern) text
  by true e on =
      rw (no_letter sign 37 (inl (omega arith)) ∙ e, e)
      (somewhere_lower (is_like (map to_ascii_lowercase pattern)) (is_like pattern) on text)
  by false e on =
      as_one (to_ascii_lowercase sign) (map to_ascii_lowercase pattern) (no_letter sign 37 (inl (omega arith)) ∙ e) (map to_ascii_lowercase text)
      ∙ one_lower sign (is_like (map to_ascii_lowercase pattern)) (is_like pattern) on text
      ∙ sym (as_one sign pattern e text)

pub like_in_lower : (pattern text signs characters : List ℕ) → IsUtf8 pattern → IsUtf8 text → IsUtf8 signs → IsUtf8 characters
    → signs ≡ map to_ascii_lowercase pattern → characters ≡ map to_ascii_lowercase text
    → somewhere (is_like (chars signs)) (chars characters) ≡ somewhere (is_like (chars pattern)) (chars text)
like_in_lower pattern text signs characters pattern_told text_told signs_told characters_told is has =
    ap (λ s. somewhere (is_like s) (chars characters)) (chars_lower pattern signs pattern_told signs_told is)
    ∙ ap (somewhere (is_like (map to_ascii_lowercase (chars pattern)))) (chars_lower text characters text_told characters_told has)
    ∙ somewhere_lower (is_like (map to_ascii_lowercase (chars pattern))) (is_like (chars pattern)) (like_lower (chars pattern)) (chars text)
