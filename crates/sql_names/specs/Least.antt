-- The least place of some.
use Rattle.std.specs.Prelude.{ℕ, nat_le, if◌then◌else◌, List, [], ◌∷◌, Option, Some, None}

abbrev pub lesser : Option ℕ → Option ℕ → Option ℕ
lesser None other = other
lesser (Some place) None = Some place
lesser (Some place) (Some other) = Some (if nat_le place other then place else other)

-- of those that are there
abbrev pub least : List (Option ℕ) → Option ℕ
least [] = None
least (place ∷ places) = lesser place (least places)
