-- What an image holds, and what a view of it shows.
use Rattle.std.specs.Prelude.{◌≡◌, ℕ, ◌+◌, ◌-◌, ◌<◌, ◌≤◌, ◌^◌, true, nat_lt, if◌then◌else◌, List, [], ◌∷◌, ◌++◌, length, map, All, slice_index, slice_index_or, unwrap_or}
use Rattle.osq_value.specs.declared.value.Value.{Value}
use Rattle.osq_value.specs.Catalogue.{width_of}
use Rattle.entry_model.specs.declared.restored.Live.{Live}
use Rattle.entry_model.specs.declared.restored.Restored.{Restored}
use Rattle.entry_model.specs.Fits.{IsRisingFrom}
use Rattle.entry_model.specs.Next.{rows_at}
use Rattle.entry_model.specs.Views.{is_evented_table, is_recorded_table}
use Rattle.event_store.specs.Queues.{events_of, rows_above}

pub record Contents : Type 0 where
  pub last : ℕ  -- the number of the last event
  pub floors : List ℕ  -- up to which number the events of each evented table have expired
  pub live : List (List Live)  -- the live events of each evented table, by number
  pub tables : List (List (List Value))  -- the rows of each recorded table

abbrev pub floor_at : Contents → ℕ → ℕ
floor_at image table = slice_index image.floors table

abbrev pub live_at : Contents → ℕ → List Live
live_at image table = slice_index_or image.live table []

-- the recorded tables are numbered from 3
abbrev pub rows_set : Contents → ℕ → List (List Value)
rows_set image table = slice_index_or image.tables (table - 3) []

-- what is known of the events of one table, where `last` is the number of the last event of any
pub record AreLive (last table : ℕ) (events : List Live) : Type 0 where
  pub rising : IsRisingFrom 0 events
  pub known : All (λ (event : Live). event.number ≤ last) events
  pub wide : All (λ (event : Live). length event.row ≡ width_of table) events

-- each row has this many columns
abbrev pub AreWide : ℕ → List (List Value) → Type 0
AreWide width rows = All (λ (row : List Value). length row ≡ width) rows

-- what is known of every image
pub record IsImage (image : Contents) : Type 0 where
  pub floor_count : length image.floors ≡ 3
  pub live_count : length image.live ≡ 3
  pub table_count : length image.tables ≡ 9
  pub last : image.last ≤ 2 ^ 62
  pub live : (table : ℕ) → AreLive image.last table (live_at image table)
  pub wide : (place : ℕ) → AreWide (width_of (3 + place)) (slice_index_or image.tables place [])

-- the image holds what these values of a kept list say
pub record Holds (r : Restored) (image : Contents) : Type 0 where
  pub last : image.last ≡ r.last
  pub floors : image.floors ≡ r.floors
  pub live : (table : ℕ) → is_evented_table table ≡ true → live_at image table ≡ events_of r.live table
  pub rows : (table : ℕ) → is_recorded_table table ≡ true → rows_set image table ≡ unwrap_or (rows_at r.tables table) []

-- the rows of each table, by the tables' numbers
abbrev pub Shown : Type 0
Shown = List (List (List Value))

-- the rows that a view shows of a table
abbrev pub rows_in : Shown → ℕ → List (List Value)
rows_in view table = if nat_lt table 15 then slice_index_or view table [] else []

-- the tables of a view, by their numbers: of the events those above a number, then the recorded tables, and no rows of the
-- computed ones
abbrev pub cut_above : ℕ → Contents → Shown
cut_above number image = map (rows_above number) image.live ++ (image.tables ++ [] ∷ [] ∷ [] ∷ [])

-- what is known of every view
pub record IsView (view : Shown) : Type 0 where
  pub count : length view ≡ 15
  pub wide : (table : ℕ) → AreWide (width_of table) (slice_index_or view table [])

-- live events are above the floors of their tables, and no floor is beyond the last number
pub record HasFloors (image : Contents) : Type 0 where
  pub above : (table : ℕ) → is_evented_table table ≡ true → All (λ (event : Live). floor_at image table < event.number) (live_at image table)
  pub known : All (λ (floor : ℕ). floor ≤ image.last) image.floors
