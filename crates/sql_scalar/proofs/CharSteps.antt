-- The first and the last character of a text, and a character that it lacks.
use Rattle.std.proofs.Common.{◌≡◌, ℕ, ◌<◌, ◌==◌, List, [], ◌∷◌, ◌++◌, length, ap, sym, subst, ◌∙◌, arith, length-append, append-nil}
use Rattle.std.specs.Char.{encode_utf8}
use Rattle.std.specs.Str.{chars, IsUtf8, NoCharPasses}
use Rattle.std.proofs.lemmas.Str.{chars-nil, chars_past_char, chars_from_encodes, encodes-append, encodes-chars, length-encode, len_utf8_bounds}
use Rattle.sql_scalar.specs.Pieces.{Lacks}

pub first_char : (text rest : List ℕ) (char : ℕ) → IsUtf8 text → text ≡ encode_utf8 char ++ rest
    → (chars text ≡ char ∷ chars rest) × (length rest < length text)
first_char text rest char told split = (
  chars_past_char text rest char told split,
  (omega (arith, ap length split, length-append (encode_utf8 char) rest, length-encode char, (len_utf8_bounds char).0)),
)

pub no_char : (text : List ℕ) → length text ≡ 0 → chars text ≡ []
no_char [] none = chars-nil
no_char (byte ∷ rest) none = absurd (omega arith)

pub last_char : (text front : List ℕ) (char : ℕ) → IsUtf8 text → IsUtf8 front → text ≡ front ++ encode_utf8 char
    → (chars text ≡ chars front ++ char ∷ []) × (length front < length text)
last_char text front char told front_told split = (
  sym (chars_from_encodes (chars front ++ char ∷ []) text told
      (encodes-append (chars front) (char ∷ []) ∙ ap (λ l. l ++ (encode_utf8 char ++ [])) (encodes-chars front front_told)
      ∙ ap (λ l. front ++ l) (append-nil (encode_utf8 char)) ∙ sym split)),
  (omega (arith, ap length split, length-append front (encode_utf8 char), length-encode char, (len_utf8_bounds char).0)),
)

-- a text that a sign isn't in
pub lacks_sign : (sign : ℕ) (text : List ℕ) → IsUtf8 text → NoCharPasses (λ other. other == sign) text → Lacks sign (chars text)
lacks_sign sign text told none = subst (Lacks sign) (chars_from_encodes none.0 text told none.1) none.2
