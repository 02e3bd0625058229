-- A round of the sources and of workers who answer what is due, all at once.
use Rattle.std.specs.Prelude.{◌≡◌, ◌⊎◌, ℕ, ◌+◌, ◌^◌, ◌<◌, Bool, true, ◌||◌, All, List, ◌∷◌, ◌++◌, Some, slice_get}
use Rattle.std.specs.List.{AllZip, list_any}
use Rattle.osq_value.specs.declared.reading.Reading.{Reading}
use Rattle.source_feeds.specs.Feeding.{Feeding}
use Rattle.entry_model.specs.declared.entry.Entry.{Entry}
use Rattle.entry_model.specs.declared.restored.Restored.{Restored}
use Rattle.entry_model.specs.Values.{last_of, schedule_in, tick_in}
use Rattle.session_state.specs.Kept.{Kept}
use Rattle.session_state.specs.Readings.{entry_of, event_count}
use Rattle.session_state.specs.StateOf.{IsStateOf}
use Rattle.session_model.specs.Taking.{from_source, is_from}
use Rattle.session_model.specs.Working.{is_batch}
use Rattle.daemon_rounds.specs.Adding.{counts_after}
use Rattle.daemon_rounds.specs.Rounding.{Whole, names_of}
use Rattle.daemon_rounds.specs.Telling.{AreTellable}
use Rattle.daemon_rounds.specs.Turns.{Gave, IsTurn, Turn}
use Rattle.daemon_rounds.specs.declared.turning.Which.TheVariants as which

-- The new state stands for these entries more, has them at the end of its tail, and runs what they configure. Which queries are claimed is free.
pub record Gains (old : Kept) (entries : List Entry) (new : Kept) : Type 0 where
  pub stands : (base : Restored) (added : List Entry) → IsStateOf base added old → IsStateOf base (added ++ entries) new
  pub counts : new.counts ≡ counts_after old.counts entries
  pub schedule : new.schedule ≡ last_of schedule_in old.schedule entries
  pub ticked : new.ticked ≡ last_of tick_in old.ticked entries
  pub tail : new.tail ≡ old.tail ++ entries

-- the entry is that of a reading of this source, whatever its moment
abbrev pub IsReadingOf : List ℕ → Reading → Entry → Type 0
IsReadingOf name reading entry = (moment : ℕ) × (entry ≡ entry_of name moment reading)

-- the entry is a batch, or a reading of one of these sources
abbrev pub is_work : List (List ℕ) → Entry → Bool
is_work names entry = is_batch entry || list_any (λ (name : List ℕ). is_from name entry) names

-- Each source had one turn, and the state gained the entries of what it gave, in their order; what it gained else are batches. How they lie between one
-- another is free.
pub record WorksAtOnce {S : Type 0} (tells : Type 0) (left : S → List ℕ) (faults : S → ℕ) (most : ℕ) (feeds nexts : List Feeding) (sources rests : List S) (old new : Kept) : Type 0 where
  pub turns : List (Turn S)
  pub whole : Whole feeds nexts sources rests turns
  pub each : All (IsTurn tells left faults which.Every most) turns
  pub body : List Entry
  pub gains : Gains old body new
  pub own : All (λ (turn : Turn S). AllZip (IsReadingOf turn.feed.name) turn.readings (from_source turn.feed.name body)) turns
  pub parts : All (λ (entry : Entry). is_work (names_of feeds) entry ≡ true) body
  pub tellable : AreTellable body

-- the source at some place gave readings, one of which has events whose numbers would pass 2^62 behind this state
pub record GivesTooMuch {S : Type 0} (tells : Type 0) (left : S → List ℕ) (most : ℕ) (feeds nexts : List Feeding) (sources rests : List S) (state : Kept) : Type 0 where
  pub place : ℕ
  pub feed : Feeding
  pub next : Feeding
  pub source : S
  pub rest : S
  pub feed_there : slice_get feeds place ≡ Some feed
  pub next_there : slice_get nexts place ≡ Some next
  pub source_there : slice_get sources place ≡ Some source
  pub rest_there : slice_get rests place ≡ Some rest
  pub done : List Reading
  pub reading : Reading
  pub later : List Reading
  pub gave : Gave tells (left source) (left rest) feed next most (done ++ reading ∷ later)
  pub beyond : 2 ^ 62 < state.image.last + event_count reading

-- Some readings of these sources and some batches were added, and behind them no number was left: for the events of a reading, or for a batch.
pub record SpendsAtOnce {S : Type 0} (tells : Type 0) (left : S → List ℕ) (most : ℕ) (feeds nexts : List Feeding) (sources rests : List S) (old : Kept) : Type 0 where
  pub added : List Entry
  pub between : Kept
  pub gains : Gains old added between
  pub parts : All (λ (entry : Entry). is_work (names_of feeds) entry ≡ true) added
  pub spent : GivesTooMuch tells left most feeds nexts sources rests between ⊎ (2 ^ 62 < between.counts.batches + 1)
