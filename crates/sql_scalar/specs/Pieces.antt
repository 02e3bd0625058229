-- For proofs of the code's steps, and no part of the meaning: the pieces of a pattern, which have no `%`.
use Rattle.std.specs.Prelude.{◌≡◌, ℕ, ◌==◌, if◌then◌else◌, false, Option, Some, None, List, [], ◌∷◌, ◌++◌, ⊤, MatchOption}
use Rattle.std.specs.Char.{to_ascii_lowercase}
use Rattle.std.specs.Str.{chars, NonePass}
use denote.Ref.{Bor}
use Rattle.sql_scalar.specs.Likeness.{fits_one, is_like, somewhere}

-- what stands behind a piece that fits the front of a text
abbrev pub behind : List ℕ → List ℕ → Option (List ℕ)
behind [] text = Some text
behind (sign ∷ piece) [] = None
behind (sign ∷ piece) (char ∷ rest) = if fits_one sign char then behind piece rest else None

abbrev pub Lacks : ℕ → List ℕ → Type 0
Lacks sign piece = NonePass (λ other. other == sign) piece

-- no character is an ASCII letter in upper case
abbrev pub IsLower : List ℕ → Type 0
IsLower [] = ⊤
IsLower (char ∷ rest) = (to_ascii_lowercase char ≡ char) × IsLower rest

-- the rest of a list behind some of its items
abbrev pub IsEnd : List ℕ → List ℕ → Type 0
IsEnd whole rest = (front : List ℕ) × (whole ≡ front ++ rest)

-- behind a `%`, a piece and a further `%` decides what is left of the text behind the piece
abbrev pub IsBehindFirst : List ℕ → List ℕ → Option (Bor (List ℕ)) → Type 0
IsBehindFirst piece text result = MatchOption result
    ((others : List ℕ) → somewhere (is_like (chars piece ++ 37 ∷ others)) (chars text) ≡ false)
    (λ rest. ((others : List ℕ) → somewhere (is_like (chars piece ++ 37 ∷ others)) (chars text) ≡ somewhere (is_like others) (chars rest.now))
    × IsEnd (chars text) (chars rest.now))
