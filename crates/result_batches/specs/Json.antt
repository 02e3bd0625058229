-- JSON texts without blanks.
use Rattle.std.specs.Prelude.{ℕ, ◌==◌, if◌then◌else◌, List, [], ◌∷◌, ◌++◌, flat_map}
use Rattle.control_escapes.specs.Escapes.{escaped_control}

-- a byte inside a quoted text: the quote and the backslash behind a backslash, and a control character by its escape
abbrev pub escaped : ℕ → List ℕ
escaped b =
    if b == 34 then 92 ∷ 34 ∷ []
    else (if b == 92 then 92 ∷ 92 ∷ []
    else escaped_control b)

abbrev pub quoted : List ℕ → List ℕ
quoted text = 34 ∷ (flat_map escaped text ++ 34 ∷ [])

-- a comma before each
abbrev pub each_behind_comma : List (List ℕ) → List ℕ
each_behind_comma texts = flat_map (λ text. 44 ∷ text) texts

-- with a comma between any two
abbrev pub joined : List (List ℕ) → List ℕ
joined [] = []
joined (text ∷ rest) = text ++ each_behind_comma rest

-- the texts in brackets
abbrev pub array : List (List ℕ) → List ℕ
array texts = 91 ∷ (joined texts ++ 93 ∷ [])
