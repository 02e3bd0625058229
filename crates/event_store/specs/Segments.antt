-- Events in segments: each has its own range of numbers, and the events of each evented table in it.
use Rattle.std.specs.Prelude.{◌≡◌, ℕ, ◌+◌, ◌-◌, ◌<◌, ◌≤◌, ◌^◌, List, [], ◌∷◌, ◌++◌, length, drop, All, slice_index, slice_index_or}
use Rattle.entry_model.specs.declared.restored.Live.{Live}
use Rattle.event_store.specs.Queues.{above, placed}
use Rattle.event_store.specs.declared.segment.Segment.{Segment}
use Rattle.event_store.specs.declared.segments.Segments.{Segments}

-- the number of the last event that ever was, and the live events of each evented table, by number
pub record Numbered : Type 0 where
  pub last : ℕ
  pub live : List (List Live)

-- the events of a table in a segment
abbrev pub held_at : Segment → ℕ → List Live
held_at segment table = slice_index_or segment.held table []

-- how many of them there are, of all three tables
abbrev pub count_of : Segment → ℕ
count_of segment = length (held_at segment 0) + length (held_at segment 1) + length (held_at segment 2)

-- how many events of a table there were up to its end
abbrev pub reach_of : ℕ → Segment → ℕ
reach_of table segment = slice_index segment.before table + length (held_at segment table)

-- the events of a table in several
abbrev pub joined : ℕ → List Segment → List Live
joined table [] = []
joined table (segment ∷ rest) = held_at segment table ++ joined table rest

-- a segment with these events more, each at the end of the list of its table
abbrev pub filled : Segment → List Live → Segment
filled segment events = record segment { held = placed segment.held events }

-- no events, of the 256 numbers behind it
abbrev pub next_to : Segment → Segment
next_to segment =
    record { end = segment.end + 256; before = reach_of 0 segment ∷ reach_of 1 segment ∷ reach_of 2 segment ∷ []; held = [] ∷ [] ∷ [] ∷ [] }

-- how many events of a table there were before them
abbrev pub before_all : ℕ → List Segment → ℕ
before_all table [] = 0
before_all table (segment ∷ rest) = slice_index segment.before table

-- each segment says how many events of the table there were before it, of which so many before all
abbrev pub AreCounted : ℕ → ℕ → List Segment → Type 0
AreCounted table before [] = Unit {0}
AreCounted table before (segment ∷ rest) =
    (slice_index segment.before table ≡ before) × AreCounted table (before + length (held_at segment table)) rest

-- each segment has 256 numbers of its own, behind this one, and no event beyond them
abbrev pub AreSpaced : ℕ → List Segment → Type 0
AreSpaced start [] = Unit {0}
AreSpaced start (segment ∷ rest) =
    (start + 256 ≤ segment.end) × ((table : ℕ) → table < 3 → All (λ (event : Live). event.number ≤ segment.end) (held_at segment table)) × AreSpaced segment.end rest

-- closed segments and the tail behind a number, where `last` is that of the last event and so many of each table were before all
pub record AreSegments (start last : ℕ) (before : ℕ → ℕ) (parts : List Segment) (tail : Segment) : Type 0 where
  pub counted : (table : ℕ) → table < 3 → AreCounted table (before table) (parts ++ tail ∷ [])
  pub spaced : AreSpaced start (parts ++ tail ∷ [])
  pub unfilled : last < tail.end
  pub few : count_of tail + tail.end ≤ last + 256

-- the closed ones, and then the tail
abbrev pub all_of : Segments → List Segment
all_of s = s.parts.items ++ s.tail ∷ []

-- the events of a table from the first one that is live
abbrev pub live_in : Segments → ℕ → List Live
live_in s table = drop (slice_index s.first table - before_all table (all_of s)) (joined table (all_of s))

abbrev pub all_live : Segments → List (List Live)
all_live s = live_in s 0 ∷ live_in s 1 ∷ live_in s 2 ∷ []

-- what is known of all segments together
pub record IsSound (s : Segments) : Type 0 where
  pub three : length s.first ≡ 3
  pub segments : AreSegments 0 s.last (λ table. before_all table (all_of s)) s.parts.items s.tail
  pub held : (table : ℕ) → table < 3 → before_all table (all_of s) ≤ slice_index s.first table
  pub within : (table : ℕ) → table < 3 → slice_index s.first table ≤ before_all table (all_of s) + length (joined table (all_of s))
  pub most : (table : ℕ) → table < 3 → before_all table (all_of s) + length (joined table (all_of s)) ≤ s.last
  pub last : s.last ≤ 2 ^ 62

-- so many events of each table were before the first live one above a number
pub record IsFirstAbove (number : ℕ) (s : Segments) (first : List ℕ) : Type 0 where
  pub three : length first ≡ 3
  pub held : (table : ℕ) → table < 3 → slice_index s.first table ≤ slice_index first table
  pub within : (table : ℕ) → table < 3 → slice_index first table ≤ before_all table (all_of s) + length (joined table (all_of s))
  pub live : (table : ℕ) → table < 3 → drop (slice_index first table - before_all table (all_of s)) (joined table (all_of s)) ≡ above number (live_in s table)
