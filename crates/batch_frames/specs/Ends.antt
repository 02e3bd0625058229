-- How the text of a value in an array or an object begins, and what stands behind it.
use Rattle.std.specs.Prelude.{◌≡◌, ℕ, ◌==◌, ◌||◌, Bool, true, false, not, List, [], ◌∷◌, if◌then◌else◌}

-- a comma, or the bracket that closes an array
abbrev pub is_end : ℕ → Bool
is_end byte = byte == 44 || byte == 93

-- nothing, or what begins with an end
abbrev pub IsAtEnd : List ℕ → Type 0
IsAtEnd [] = Unit {0}
IsAtEnd (byte ∷ rest) = is_end byte ≡ true

-- behind a value
abbrev pub BeginsWithEnd : List ℕ → Type 0
BeginsWithEnd [] = ⊥
BeginsWithEnd (byte ∷ rest) = is_end byte ≡ true

-- no text of a value begins with the bracket that closes an array
abbrev pub BeginsValue : List ℕ → Type 0
BeginsValue [] = ⊥
BeginsValue (byte ∷ rest) = (byte == 93) ≡ false

-- what stands behind a comma, where there is one
abbrev pub behind_comma : List ℕ → List ℕ
behind_comma [] = []
behind_comma (byte ∷ rest) = if byte == 44 then rest else byte ∷ rest

-- another item stands in front: there are bytes, and they don't begin with the bracket that closes an array
abbrev pub has_item : List ℕ → Bool
has_item [] = false
has_item (byte ∷ rest) = not (byte == 93)

abbrev pub begins_with : ℕ → List ℕ → Bool
begins_with byte [] = false
begins_with byte (first ∷ rest) = first == byte
