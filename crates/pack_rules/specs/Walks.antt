-- What is left of a text that is walked part by part.
use Rattle.std.specs.Prelude.{ℕ, List, [], ◌∷◌, ◌+◌, length, Option, Some, None, map}
use Rattle.std.specs.Borrow.{Bor}
use Rattle.pack_rules.specs.Parts.{parts_of}
use Rattle.pack_rules.specs.Versions.{part_number}

-- the parts of what stands behind a separator, where there was one
abbrev pub parts_left : ℕ → Option (Bor (List ℕ)) → List (List ℕ)
parts_left separator None = []
parts_left separator (Some rest) = parts_of separator rest.now

abbrev pub numbers_left : Option (Bor (List ℕ)) → List ℕ
numbers_left left = map part_number (parts_left 46 left)

-- the first of some numbers, or 0
abbrev pub first_number : List ℕ → ℕ
first_number [] = 0
first_number (number ∷ numbers) = number

abbrev pub numbers_behind : List ℕ → List ℕ
numbers_behind [] = []
numbers_behind (number ∷ numbers) = numbers

abbrev pub bytes_left : Option (Bor (List ℕ)) → ℕ
bytes_left None = 0
bytes_left (Some rest) = length rest.now + 1
