-- What is loaded of rows that show some values.
use Rattle.std.proofs.Common.{◌≡◌, ℕ, List, [], ◌∷◌}
use Rattle.entry_model.specs.declared.restored.Live.{Live}
use Rattle.entry_model.specs.Fits.{IsRisingFrom}
use Rattle.kept_tables.specs.Loads.{IsByNumber}
use Rattle.std.specs.List.Sorted.{IsPermutation}
use Rattle.kept_tables.proofs.Sorting.{Rises, sorted_is}

rises : (m : ℕ) (live : List Live) → IsRisingFrom m live → Rises (λ (event : Live). event.number) m live
rises m [] up = tt
rises m (event ∷ live) up = (up.0, rises event.number live up.1)

-- the events by number are the ones that rise
pub live_is : (events live made : List Live) → IsByNumber events made → IsPermutation events live → IsRisingFrom 0 live → made ≡ live
live_is events live made by same up = sorted_is (λ (event : Live). event.number) live made events by.same by.rising same (rises 0 live up)
