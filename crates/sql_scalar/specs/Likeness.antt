-- LIKE, on the characters of a pattern and of a text: `%` is any run of characters, `_` is one, and ASCII letters match in either case.
use Rattle.std.specs.Prelude.{ℕ, ◌==◌, ◌||◌, ◌&&◌, if◌then◌else◌, Bool, true, false, Some, List, [], ◌∷◌}
use Rattle.std.specs.Char.{to_ascii_lowercase}
use Rattle.std.specs.Str.{chars}
use Rattle.osq_value.specs.declared.value.Value.{Value}
use Rattle.sql_scalar.specs.Texts.{on_texts, text_of}
use Rattle.sql_scalar.specs.Truth.{from_truth, not_of}

-- a test holds of the text or of what is left of it behind some of its characters
abbrev pub somewhere : (List ℕ → Bool) → List ℕ → Bool
somewhere test [] = test []
somewhere test (char ∷ rest) = test (char ∷ rest) || somewhere test rest

-- one sign of a pattern that isn't `%`, and one character
abbrev pub fits_one : ℕ → ℕ → Bool
fits_one sign char = sign == 95 || to_ascii_lowercase sign == to_ascii_lowercase char

-- the first character fits the sign, and a test holds of the rest
abbrev pub one_and : ℕ → (List ℕ → Bool) → List ℕ → Bool
one_and sign test [] = false
one_and sign test (char ∷ rest) = fits_one sign char && test rest

abbrev pub is_empty : List ℕ → Bool
is_empty [] = true
is_empty (char ∷ rest) = false

abbrev pub is_like : List ℕ → List ℕ → Bool
is_like [] text = is_empty text
is_like (sign ∷ pattern) text = if sign == 37 then somewhere (is_like pattern) text else one_and sign (is_like pattern) text

-- `x LIKE y`, and its negation
abbrev pub like_of : Value → Value → Value
like_of left right = on_texts (λ text pattern. from_truth (Some (is_like (chars pattern) (chars text)))) (text_of left) (text_of right)

abbrev pub not_like_of : Value → Value → Value
not_like_of left right = not_of (like_of left right)
