-- What a publisher does by its own seat.
use Rattle.std.specs.Prelude.{◌≡◌, ◌≢◌, ◌⊎◌, ℕ, ◌+◌, ◌<◌, ◌^◌, true, false, List, [], ◌∷◌, ◌++◌}
use Rattle.osq_value.specs.declared.reading.Reading.{Reading}
use Rattle.entry_model.specs.Next.{offset_at}
use Rattle.source_feeds.specs.Feeding.{Feeding}
use Rattle.session_state.specs.declared.state.AppendError.{AppendError}
use Rattle.session_state.specs.declared.state.AppendError.TheVariants as append
use Rattle.session_state.specs.Kept.{Counts, Kept}
use Rattle.session_state.specs.Readings.{event_count}
use Rattle.turn_lock.specs.Turns.{entries}
use Rattle.shared_store.specs.declared.noted.Noted.{Noted}
use Rattle.shared_store.specs.Notes.{entries_in}
use Rattle.shared_store.specs.Shares.{StandsFor}
use Rattle.shared_store.specs.Values.{counts_after}
use Rattle.daemon_rounds.specs.Turns.{Gave}
use Rattle.thread_laws.specs.Jobs.{AddsOwn, IsPublished, Stamped, is_noted_from}
use Rattle.thread_jobs.specs.declared.error.JobError.{JobError}
use Rattle.thread_jobs.specs.declared.error.JobError.TheVariants as job

-- the counts of each state that stands for these notes
abbrev pub counts_at : Kept → List Noted → Counts
counts_at start notes = counts_after start.counts (entries_in notes)

-- the offset up to which the source is then taken
abbrev pub offset_after : Kept → List Noted → List ℕ → ℕ
offset_after start notes name = offset_at (counts_at start notes).taken name

-- a feed that may take a step, and goes on from the offset up to which the notes have its source
pub record IsGoingFrom (start : Kept) (notes : List Noted) (feed : Feeding) : Type 0 where
  pub begun : feed.reader.is_begun ≡ true
  pub unspent : feed.reader.is_spent ≡ false
  pub place : feed.reader.taken ≡ offset_after start notes feed.name

-- the seat has added the first so many of these readings of its source, and nothing else
pub record AddsFront (number : ℕ) (before after : Stamped) (name : List ℕ) (readings : List Reading) : Type 0 where
  pub done : List Reading
  pub rest : List Reading
  pub are : readings ≡ done ++ rest
  pub published : IsPublished number before after name done

-- the source was taken one step, of at most so many records, and the seat has added the first so many of the readings that it gave
pub record HasTakenPart (tells : Type 0) (left_before left_after : List ℕ) (most number : ℕ) (before after : Stamped) (feed next : Feeding) : Type 0 where
  pub readings : List Reading
  pub gave : Gave tells left_before left_after feed next most readings
  pub front : AddsFront number before after feed.name readings

-- whatever comes of a publisher, its seat adds nothing but readings of one step of its source, from the first one on
abbrev pub TakesPart : Type 0 → List ℕ → List ℕ → ℕ → ℕ → Stamped → Stamped → Feeding → Feeding → Type 0
TakesPart tells left_before left_after most number before after feed next =
    AddsOwn number before after [] ⊎ HasTakenPart tells left_before left_after most number before after feed next

-- The source was taken one step, of at most so many records, which gave these readings, and each of them was added. The source had the bytes
-- `left_before` to give, and has `left_after` now.
pub record IsTaken (tells : Type 0) (left_before left_after : List ℕ) (most number : ℕ) (before after : Stamped) (feed next : Feeding) : Type 0 where
  pub readings : List Reading
  pub gave : Gave tells left_before left_after feed next most readings
  pub published : IsPublished number before after feed.name readings

-- some of these readings are added, and the next one has events whose numbers would pass 2^62
pub record Exceeds (start : Kept) (number : ℕ) (before after : Stamped) (name : List ℕ) (readings : List Reading) : Type 0 where
  pub done : List Reading
  pub next : Reading
  pub rest : List Reading
  pub are : readings ≡ done ++ next ∷ rest
  pub published : IsPublished number before after name done
  pub state : Kept
  pub stands : StandsFor start (entries after) state
  pub beyond : 2 ^ 62 < state.image.last + event_count next

-- the source took one step, and one of its readings has too many events
pub record HasTooMuch (tells : Type 0) (left_before left_after : List ℕ) (most : ℕ) (start : Kept) (number : ℕ) (before after : Stamped) (feed next : Feeding) : Type 0 where
  pub readings : List Reading
  pub gave : Gave tells left_before left_after feed next most readings
  pub exceeds : Exceeds start number before after feed.name readings

-- behind what it had seen, the seat of this number finds a reading of its source that another seat has added
pub record IsIntruded (number : ℕ) (before after : Stamped) (name : List ℕ) : Type 0 where
  pub front : Stamped
  pub stamped : ℕ × Noted
  pub rest : Stamped
  pub are : after ≡ before ++ (front ++ stamped ∷ rest)
  pub other : stamped.0 ≢ number
  pub of : is_noted_from name stamped.1 ≡ true

-- why a publisher ends whose reading is refused
abbrev pub unadded_by : AppendError → JobError
unadded_by (append.Backwards kept) = job.Intruded
unadded_by append.NumbersSpent = job.NumbersSpent
unadded_by append.NoMemory = job.NoMemory
