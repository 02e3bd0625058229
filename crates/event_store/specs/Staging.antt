-- Segments that are made behind others.
use Rattle.std.specs.Prelude.{◌≡◌, ℕ, ◌+◌, ◌<◌, ◌≤◌, List, [], ◌∷◌, ◌++◌, length}
use Rattle.entry_model.specs.declared.restored.Live.{Live}
use Rattle.event_store.specs.declared.segment.Segment.{Segment}
use Rattle.event_store.specs.declared.placing.Staged.{Staged}
use Rattle.event_store.specs.Queues.{events_of, IsLonger}
use Rattle.event_store.specs.Segments.{count_of, reach_of, joined, AreCounted, AreSpaced, filled, next_to}

-- the tail, with these events, is closed, and an empty one stands behind it
pub record StagesRange (old : Staged) (events : List Live) (new : Staged) : Type 0 where
  pub parts : new.parts.items ≡ old.parts.items ++ filled old.tail events ∷ []
  pub tail : new.tail ≡ next_to (filled old.tail events)

-- the tail is closed, and an empty one of the range of this number stands behind it
pub record Closes (old : List Segment) (tail : Segment) (number : ℕ) (new : List Segment) (next : Segment) : Type 0 where
  pub parts : new ≡ old ++ tail ∷ []
  pub beyond : tail.end + 256 ≤ next.end
  pub holds : number ≤ next.end
  pub ends : next.end < number + 256
  pub before : next.before ≡ reach_of 0 tail ∷ reach_of 1 tail ∷ reach_of 2 tail ∷ []
  pub held : next.held ≡ [] ∷ [] ∷ [] ∷ []

-- some events more may stand at the ends of its lists
pub record IsOverfull (old new : Segment) : Type 0 where
  pub end : new.end ≡ old.end
  pub before : new.before ≡ old.before
  pub held : IsLonger old.held new.held

-- segments with these events, of which the last has this number
pub record AreRestored (number : ℕ) (live : List Live) (parts : List Segment) (tail : Segment) : Type 0 where
  pub counted : (table : ℕ) → table < 3 → AreCounted table 0 (parts ++ tail ∷ [])
  pub spaced : AreSpaced 0 (parts ++ tail ∷ [])
  pub events : (table : ℕ) → table < 3 → joined table (parts ++ tail ∷ []) ≡ events_of live table
  pub most : (table : ℕ) → table < 3 → length (joined table (parts ++ tail ∷ [])) ≤ number
  pub room : number ≤ tail.end
  pub few : count_of tail + tail.end ≤ number + 256
  pub three : length tail.held ≡ 3
