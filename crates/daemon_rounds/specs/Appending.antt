-- The readings of a source, one after another.
use Rattle.std.specs.Prelude.{◌≡◌, ℕ, ◌+◌, ◌<◌, ◌^◌, List, [], ◌∷◌, ◌++◌, map}
use Rattle.osq_value.specs.declared.reading.Reading.{Reading}
use Rattle.entry_model.specs.declared.entry.Entry.{Entry}
use Rattle.session_state.specs.Kept.{Kept}
use Rattle.session_state.specs.Readings.{entry_of, event_count, taken_of}
use Rattle.daemon_rounds.specs.Adding.{AddsEntries}

-- each reading ends behind the one before it, and the first behind this offset
abbrev pub AreRising : ℕ → List Reading → Type 0
AreRising offset [] = Unit {0}
AreRising offset (reading ∷ rest) = (offset < taken_of reading) × AreRising (taken_of reading) rest

-- where the last of them ends, or this offset
abbrev pub end_behind : ℕ → List Reading → ℕ
end_behind offset [] = offset
end_behind offset (reading ∷ rest) = end_behind (taken_of reading) rest

-- their entries
abbrev pub entries_of : List ℕ → ℕ → List Reading → List Entry
entries_of source moment readings = map (entry_of source moment) readings

-- the next of these readings has events whose numbers would pass 2^62; those before it are appended
pub record Exceeds (source : List ℕ) (readings : List Reading) (old new : Kept) : Type 0 where
  pub done : List Reading
  pub next : Reading
  pub rest : List Reading
  pub are : readings ≡ done ++ next ∷ rest
  pub brings : AddsEntries old (entries_of source old.counts.moment done) new
  pub beyond : 2 ^ 62 < new.image.last + event_count next
