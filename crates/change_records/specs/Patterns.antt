-- Which paths a pattern matches.
use Rattle.std.specs.Prelude.{◌≡◌, ℕ, ◌==◌, List, [], ◌∷◌, ◌++◌, ◌<◌, length, drop, bytes_eq, codes, if◌then◌else◌, MatchBool}

-- within a part `%` stands for any run of bytes, and every other byte for itself
abbrev pub MatchesPart : List ℕ → List ℕ → Type 0
MatchesPart [] part = part ≡ []
MatchesPart (byte ∷ pattern) part =
    MatchBool (byte == 37) ((run : List ℕ) × (rest : List ℕ) × (part ≡ run ++ rest) × MatchesPart pattern rest)
    ((rest : List ℕ) × (part ≡ byte ∷ rest) × MatchesPart pattern rest)

-- a run of any bytes, and then the pattern
abbrev pub MatchesBehindRun : List ℕ → List ℕ → Type 0
MatchesBehindRun pattern part = (run : List ℕ) × (rest : List ℕ) × (part ≡ run ++ rest) × MatchesPart pattern rest

-- what stands between the slashes, where some bytes of the first part stand before these
abbrev pub parts_behind : List ℕ → List ℕ → List (List ℕ)
parts_behind begun [] = begun ∷ []
parts_behind begun (byte ∷ bytes) = if byte == 47 then begun ∷ parts_behind [] bytes else parts_behind (begun ++ byte ∷ []) bytes

unfoldable pub parts_of : List ℕ → List (List ℕ)
parts_of text = parts_behind [] text

-- the rest of a path has at least one byte
abbrev pub HasBytes : List (List ℕ) → Type 0
HasBytes [] = ⊥
HasBytes (part ∷ []) = 0 < length part
HasBytes (part ∷ next ∷ parts) = Unit {0}

-- `%%`, which as a pattern's last part stands for any rest of a path
abbrev pub any_rest : List ℕ
any_rest = codes "%%"

abbrev pub MatchesParts : List (List ℕ) → List (List ℕ) → Type 0
MatchesParts [] parts = ⊥
MatchesParts (last ∷ []) parts = MatchBool (bytes_eq last any_rest) (HasBytes parts) ((part : List ℕ) × (parts ≡ part ∷ []) × MatchesPart last part)
MatchesParts (first ∷ next ∷ pattern) parts =
    (part : List ℕ) × (rest : List (List ℕ)) × (parts ≡ part ∷ rest) × MatchesPart first part × MatchesParts (next ∷ pattern) rest

-- Pattern and path are split at `/`. A pattern that is `%%` alone takes what stands behind the path's first slash.
abbrev pub MatchesPath : List ℕ → List ℕ → Type 0
MatchesPath pattern path =
    MatchBool (bytes_eq pattern any_rest) (HasBytes (drop 1 (parts_of path))) (MatchesParts (parts_of pattern) (parts_of path))
