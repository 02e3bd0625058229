-- The entries of a session after which a cut that was made before is out of date.
use Rattle.std.specs.Prelude.{ℕ, suc, ◌+◌, ◌≤◌, List, [], ◌∷◌, ◌++◌}
use Rattle.entry_model.specs.declared.entry.Entry.{Entry}
use Rattle.entry_model.specs.declared.entry.Entry.TheVariants.{Configured, Ticked}

-- the place of the entry, where it is one of these
abbrev pub mark_in : ℕ → Entry → List ℕ
mark_in place (Configured document schedule moment) = place ∷ []
mark_in place (Ticked moment) = place ∷ []
mark_in place _ = []

-- the places of these entries, where the first stands at this place
abbrev pub marks_from : ℕ → List Entry → List ℕ
marks_from place [] = []
marks_from place (entry ∷ rest) = mark_in place entry ++ marks_from (suc place) rest

-- each place is behind the one before it, and the first one is not before this one
abbrev pub IsRising : ℕ → List ℕ → Type 0
IsRising from [] = Unit {0}
IsRising from (mark ∷ rest) = (from ≤ mark) × IsRising (mark + 1) rest

-- the first place behind all of them
abbrev pub behind_marks : ℕ → List ℕ → ℕ
behind_marks from [] = from
behind_marks from (mark ∷ rest) = behind_marks (mark + 1) rest
