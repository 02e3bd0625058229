-- Bytes inside a JSON string.
use Rattle.std.specs.Prelude.{◌≡◌, ℕ, ◌==◌, ◌||◌, Bool, true, List, [], ◌∷◌, ◌++◌, flat_map, if◌then◌else◌}
use Rattle.result_batches.specs.Json.{escaped}

-- a quote or a backslash
abbrev pub is_special : ℕ → Bool
is_special byte = byte == 34 || byte == 92

-- nothing, or what begins with a quote or a backslash
abbrev pub BeginsSpecial : List ℕ → Type 0
BeginsSpecial [] = Unit {0}
BeginsSpecial (byte ∷ rest) = is_special byte ≡ true

-- what a byte behind a backslash stands for, if it isn't `u`
abbrev pub meant : ℕ → ℕ
meant byte =
    if byte == 98 then 8
    else (if byte == 116 then 9
    else (if byte == 110 then 10
    else (if byte == 102 then 12
    else (if byte == 114 then 13
    else byte))))

-- the text and the rest, where the bytes are what stands inside a text's string, the quote that closes it, and a rest
abbrev pub TakesInside : List ℕ → List ℕ → List ℕ → Type 0
TakesInside bytes taken rest = (text behind : List ℕ) → bytes ≡ flat_map escaped text ++ 34 ∷ behind → (taken ≡ text) × (rest ≡ behind)
