-- The live events of one table, by number.
use Rattle.std.specs.Prelude.{◌≡◌, ℕ, ◌+◌, ◌==◌, Bool, false, length, take, nat_lt, nat_le, List, [], ◌∷◌, ◌++◌, map, filter, set, slice_index_or}
use Rattle.osq_value.specs.declared.value.Value.{Value}
use Rattle.osq_value.specs.declared.value.Event.{Event}
use Rattle.entry_model.specs.declared.restored.Live.{Live}
use Rattle.entry_model.specs.Values.{numbered}

-- the events of a table
abbrev pub events_of : List Live → ℕ → List Live
events_of events table = filter (λ (event : Live). event.table.0 == table) events

-- those with a number above this one
abbrev pub above : ℕ → List Live → List Live
above number events = filter (λ (event : Live). nat_lt number event.number) events

-- the rows of the events above a number
abbrev pub rows_above : ℕ → List Live → List (List Value)
rows_above number events = map (λ (event : Live). event.row) (above number events)

-- the first event has at most this number
abbrev pub begins_upto : ℕ → List Live → Bool
begins_upto number [] = false
begins_upto number (event ∷ rest) = nat_le event.number number

-- appended events, numbered behind the last one
abbrev pub new_events : ℕ → ℕ → List Event → List Live
new_events last moment events = numbered (1 + last) (map (λ (event : Event). (moment, event)) events)

-- one event more, at the end of the list of its table
abbrev pub pushed : List (List Live) → Live → List (List Live)
pushed queues event = set queues event.table.0 (slice_index_or queues event.table.0 [] ++ event ∷ [])

-- each event at the end of the list of its table, one after another
abbrev pub placed : List (List Live) → List Live → List (List Live)
placed queues [] = queues
placed queues (event ∷ rest) = placed (pushed queues event) rest

-- each list begins as it did
pub record IsLonger (old new : List (List Live)) : Type 0 where
  pub count : length new ≡ length old
  pub front : (table : ℕ) → take (length (slice_index_or old table [])) (slice_index_or new table []) ≡ slice_index_or old table []
