-- How many steps a slice takes.
use Rattle.std.specs.Prelude.{ℕ, ◌+◌, ◌-◌, ◌/◌, min, max, List, [], ◌∷◌}
use Rattle.entry_model.specs.declared.restored.Live.{Live}
use Rattle.event_store.specs.Contents.{Contents}

-- the number of the first of these events, or this one
abbrev pub first_number : ℕ → List Live → ℕ
first_number none [] = none
first_number none (event ∷ rest) = event.number

-- the least number of an event in these lists, or this one
abbrev pub least_number : ℕ → List (List Live) → ℕ
least_number none [] = none
least_number none (events ∷ rest) = min (first_number none events) (least_number none rest)

-- from where a slice shares segments: its lower bound, or one below the least live number, or the last where nothing is live
abbrev pub slice_from : ℕ → Contents → ℕ
slice_from number image = max number (least_number (1 + image.last) image.live - 1)

-- a step for each 256 numbers, and for a segment at the end and 255 events of the tail
abbrev pub events_cost : ℕ → Contents → ℕ
events_cost number image = (image.last - slice_from number image) / 256 + 256

-- these, and a step for the slice as a whole and for each of nine recorded tables
abbrev pub slice_cost : ℕ → Contents → ℕ
slice_cost number image = (image.last - slice_from number image) / 256 + 266
