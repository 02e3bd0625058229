-- In what order the events of a table came.
use Rattle.std.specs.Prelude.{ℕ, ◌≤◌, List, [], ◌∷◌, slice_index_or}
use Rattle.entry_model.specs.declared.restored.Live.{Live}

-- no event is from an earlier moment than the one before it, and all are from between these two moments
abbrev pub IsInOrder : ℕ → ℕ → List Live → Type 0
IsInOrder first last [] = first ≤ last
IsInOrder first last (event ∷ rest) = (first ≤ event.moment) × IsInOrder event.moment last rest

-- so it is in each of these lists
abbrev pub AreInOrder : ℕ → List (List Live) → Type 0
AreInOrder last lists = (table : ℕ) → IsInOrder 0 last (slice_index_or lists table [])
