-- The parts of a text between separators, and the words of a list.
use Rattle.std.specs.Prelude.{ℕ, ◌==◌, if◌then◌else◌, List, [], ◌∷◌, ◌++◌, reverse}
use Rattle.osq_value.specs.Casts.{behind_blanks}

-- what stands between the separators, where some bytes of the first part stand before these
abbrev pub parts_behind : ℕ → List ℕ → List ℕ → List (List ℕ)
parts_behind separator begun [] = begun ∷ []
parts_behind separator begun (byte ∷ bytes) =
    if byte == separator then begun ∷ parts_behind separator [] bytes else parts_behind separator (begun ++ byte ∷ []) bytes

unfoldable pub parts_of : ℕ → List ℕ → List (List ℕ)
parts_of separator text = parts_behind separator [] text

-- a text without the blanks at its end
abbrev pub before_blanks : List ℕ → List ℕ
before_blanks text = reverse (behind_blanks (reverse text))

-- a text without the blanks round it
abbrev pub trimmed : List ℕ → List ℕ
trimmed text = before_blanks (behind_blanks text)
