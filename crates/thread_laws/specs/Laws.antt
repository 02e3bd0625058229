-- The laws of a step that threads work on together.
use Rattle.std.specs.Prelude.{◌≡◌, ◌≢◌, ℕ, ◌+◌, ◌≤◌, ◌==◌, ◌||◌, Bool, true, All, Contains, List, ◌++◌, map, bytes_eq, None}
use Rattle.std.specs.List.{list_any, range_with_len}
use Rattle.entry_model.specs.declared.entry.Entry.{Entry}
use Rattle.entry_model.specs.declared.restored.Restored.{Restored}
use Rattle.entry_model.specs.Fits.{IsDistinct}
use Rattle.session_model.specs.Taking.{from_source, is_from}
use Rattle.session_model.specs.Working.{is_batch}
use Rattle.session_state.specs.Kept.{Kept}
use Rattle.session_state.specs.StateOf.{IsStateOf}
use Rattle.session_state.specs.Ticks.{first_due}
use Rattle.turn_lock.specs.Own.{own}
use Rattle.turn_lock.specs.Turns.{Grows, IsAbsent, entries}
use Rattle.shared_store.specs.declared.noted.Noted.{Noted}
use Rattle.shared_store.specs.Notes.{entries_in}
use Rattle.shared_store.specs.Shares.{StandsFor}
use Rattle.thread_laws.specs.Jobs.{AddsOwn, Stamped, is_noted_from}
use Rattle.thread_laws.specs.Joining.{AreAdded, AreApart, HasEach, HasPublished, HasWorked, Part, numbers_of}
use Rattle.thread_laws.specs.Reached.{AreAlike, NoneDue}
use Rattle.thread_laws.specs.Timely.{AreTimely}

-- Where the first seat has joined each seat that it ever split off, and splits off so many more and joins them, each note that it has then seen behind what it
-- had seen has the number of one of these, no two of which are the same. A list that has these numbers and those that were joined before, has each.
pub record AreNumbered (given count : ℕ) (joined : List ℕ) (before all : Stamped) : Type 0 where
  pub more : Stamped
  pub are : all ≡ before ++ more
  pub numbered : All (λ (note : ℕ × Noted). Contains (range_with_len (given + 1) count) note.0) more
  pub distinct : IsDistinct ◌==◌ (range_with_len (given + 1) count)
  pub each : (now : List ℕ) → All (Contains now) (range_with_len (given + 1) count) → All (Contains now) joined → HasEach (given + count) now

abbrev pub Numbers : Type 0
Numbers =
    (given count : ℕ) (joined : List ℕ) (before all : Stamped) → HasEach given joined → Grows (λ (number : ℕ). (number ≢ 0) × IsAbsent joined number) before all → All (λ (note : ℕ × Noted). note.0 ≤ given + count) all
    → AreNumbered given count joined before all

-- What a seat had added when its thread ended is what the joined list has under its number.
abbrev pub OwnJoined : Type 0
OwnJoined =
    (number : ℕ) (before after more : Stamped) (notes : List Noted) → AddsOwn number before after notes → Grows (λ (other : ℕ). other ≢ number) after (before ++ more) → own number more ≡ notes

-- so it is of all publishers and workers together
abbrev pub Joins : Type 0
Joins =
    (parts : List Part) (workers : List ℕ) (before more : Stamped) → All (HasPublished before (before ++ more)) parts → All (HasWorked before (before ++ more)) workers → IsDistinct ◌==◌ (numbers_of workers parts)
    → All (λ (note : ℕ × Noted). Contains (numbers_of workers parts) note.0) more → AreAdded parts workers more

-- no note of a publisher's source is of another seat
abbrev pub NoneIntrudes : Type 0
NoneIntrudes =
    (publishers : List (ℕ × List ℕ)) (workers : List ℕ) (more : Stamped) → AreApart publishers workers more
    → All (λ (one : ℕ × List ℕ). All (λ (note : ℕ × Noted). is_noted_from one.1 note.1 ≡ true → note.0 ≡ one.0) more) publishers

-- batches that a seat had added in time when its thread ended, are so in the joined list
abbrev pub TimelyJoined : Type 0
TimelyJoined =
    (start : Kept) (number : ℕ) (before front more : Stamped) → AreTimely start number before front → Grows (λ (other : ℕ). other ≢ number) (before ++ front) (before ++ more) → AreTimely start number before more

-- Where by one state no query is due behind a front part of a step, and workers add batches in
-- time, none is due by a state behind the step.
abbrev pub StayUndue : Type 0
StayUndue =
    (start : Kept) (parts : List Part) (workers : List ℕ) (before more front rest : Stamped) (state : Kept) → AreAdded parts workers more → All (λ (worker : ℕ). AreTimely start worker before more) workers → more ≡ front ++ rest
    → NoneDue start (entries (before ++ front)) → StandsFor start (entries (before ++ more)) state → first_due state ≡ None

-- the entry is a batch, or a reading of one of the sources of these parts
abbrev pub is_added : List Part → Entry → Bool
is_added parts entry = is_batch entry || list_any (λ (part : Part). is_from part.name entry) parts

-- A step's notes have of each source the entries that are under the number of its seat, and all else are batches.
pub record AreBySeats (parts : List Part) (more : Stamped) : Type 0 where
  pub own_are : All (λ (part : Part). from_source part.name (entries_in (entries more)) ≡ entries_in (own part.number more)) parts
  pub others : All (λ (entry : Entry). is_added parts entry ≡ true) (entries_in (entries more))

abbrev pub BySeats : Type 0
BySeats = (parts : List Part) (workers : List ℕ) (more : Stamped) → IsDistinct bytes_eq (map (λ (part : Part). part.name) parts) → AreAdded parts workers more → AreBySeats parts more

-- Two states that stand for the same notes behind one start, whichever seats saw them, are alike.
abbrev pub Alike : Type 0
Alike =
    (start : Kept) (notes : List Noted) (one other : Kept) (base : Restored) (added : List Entry) → IsStateOf base added start → StandsFor start notes one → StandsFor start notes other → AreAlike one other
