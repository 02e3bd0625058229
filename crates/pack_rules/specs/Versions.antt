-- Versions, as numbers between dots.
use Rattle.std.specs.Prelude.{ℕ, ◌==◌, nat_lt, Bool, true, ◌&&◌, if◌then◌else◌, List, [], ◌∷◌, map, take}
use Rattle.osq_value.specs.Spelling.{value_of}
use Rattle.osq_value.specs.Casts.{front_digits}
use Rattle.pack_rules.specs.Parts.{parts_of}

-- the number of a part's leading digits, the first 18 of them, which is 0 where there is none
abbrev pub part_number : List ℕ → ℕ
part_number part = value_of (take 18 (front_digits part))

abbrev pub numbers_of : List ℕ → List ℕ
numbers_of version = map part_number (parts_of 46 version)

-- the first version is the second or later, where a number that one of them lacks is 0
abbrev pub is_at_least : List ℕ → List ℕ → Bool
is_at_least version [] = true
is_at_least [] (least ∷ rest) = least == 0 && is_at_least [] rest
is_at_least (number ∷ version) (least ∷ rest) = if number == least then is_at_least version rest else nat_lt least number

-- an empty text holds for every version of the agent
unfoldable pub version_holds : List ℕ → List ℕ → Bool
version_holds agent [] = true
version_holds agent (byte ∷ bytes) = is_at_least (numbers_of agent) (numbers_of (byte ∷ bytes))
