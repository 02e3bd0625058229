-- What the threads of a step hand on, once their seats are joined.
use Rattle.std.specs.Prelude.{◌≡◌, ◌⊎◌, ℕ, ◌<◌, ◌==◌, true, All, Contains, List, ◌++◌, length, Some, slice_get}
use Rattle.std.specs.List.{AllZip}
use Rattle.session_state.specs.Kept.{Kept}
use Rattle.entry_model.specs.Fits.{IsDistinct}
use Rattle.session_state.specs.Sealing.{IsSealable}
use Rattle.source_feeds.specs.Feeding.{Feeding}
use Rattle.turn_lock.specs.Turns.{entries}
use Rattle.shared_store.specs.declared.noted.Noted.{Noted}
use Rattle.shared_store.specs.declared.noted.Noted.TheVariants.{Added, Given, Taken}
use Rattle.daemon_rounds.specs.AtOnce.{is_work}
use Rattle.daemon_rounds.specs.Rounding.{Whole, names_of}
use Rattle.daemon_rounds.specs.Turns.{IsTurn, Turn}
use Rattle.daemon_rounds.specs.declared.turning.Which.TheVariants as which
use Rattle.thread_laws.specs.Jobs.{Stamped}
use Rattle.thread_laws.specs.Joining.{HasEnded, HasPublished, Part, numbers_of}
use Rattle.thread_laws.specs.Timely.{AreTimely}
use Rattle.thread_jobs.specs.Publishing.{HasTooMuch}
use Rattle.thread_jobs.specs.Working.{BatchesSpent}

-- the part is that of the source that had this turn
pub record IsPartOf {S : Type 0} (turn : Turn S) (part : Part) : Type 0 where
  pub name : part.name ≡ turn.feed.name
  pub readings : part.readings ≡ turn.readings

-- it is the note of a reading of a source with one of these names, of a batch that can be sent, or of a cut that was given
abbrev pub IsWorkOf : List (List ℕ) → Noted → Type 0
IsWorkOf names (Added entry) = (is_work names entry ≡ true) × IsSealable entry
IsWorkOf names Taken = ⊥
IsWorkOf names (Given cut) = Unit {0}

abbrev pub AreWorkOf : List (List ℕ) → Stamped → Type 0
AreWorkOf names more = All (λ (note : ℕ × Noted). IsWorkOf names note.1) more

-- Each source had one turn, and a seat of its own has added what it gave; at the end of each worker no query was due, and its batches were made at the
-- moments of their turns; and all that was added is theirs. Of that `round_at_once` makes a round of all sources at once.
pub record IsStepDone {S : Type 0} (tells : Type 0) (left : S → List ℕ) (faults : S → ℕ) (most : ℕ) (start : Kept) (before after : Stamped) (feeds nexts : List Feeding) (sources rests : List S) : Type 0 where
  pub turns : List (Turn S)
  pub whole : Whole feeds nexts sources rests turns
  pub each : All (IsTurn tells left faults which.Every most) turns
  pub parts : List Part
  pub are : AllZip IsPartOf turns parts
  pub workers : List ℕ
  pub more : Stamped
  pub grown : after ≡ before ++ more
  pub published : All (HasPublished before after) parts
  pub ended : All (HasEnded start before after) workers
  pub timely : All (λ (worker : ℕ). AreTimely start worker before more) workers
  pub some : 0 < length workers
  pub distinct : IsDistinct ◌==◌ (numbers_of workers parts)
  pub numbered : All (λ (note : ℕ × Noted). Contains (numbers_of workers parts) note.0) more
  pub works : AreWorkOf (names_of feeds) more

-- Behind a list with which the joined one begins, the source at some place gave a reading with too many events.
pub record HasTooManyEvents {S : Type 0} (tells : Type 0) (left : S → List ℕ) (most : ℕ) (start : Kept) (before after : Stamped) (feeds nexts : List Feeding) (sources rests : List S) : Type 0 where
  pub place : ℕ
  pub feed : Feeding
  pub next : Feeding
  pub source : S
  pub rest : S
  pub feed_there : slice_get feeds place ≡ Some feed
  pub next_there : slice_get nexts place ≡ Some next
  pub source_there : slice_get sources place ≡ Some source
  pub rest_there : slice_get rests place ≡ Some rest
  pub number : ℕ
  pub front : Stamped
  pub more : Stamped
  pub are : after ≡ front ++ more
  pub too_much : HasTooMuch tells (left source) (left rest) most start number before front feed next

-- What was added are readings of these sources and batches alone; and so it is, or the number of a batch would have passed 2^62.
pub record SpendsStep {S : Type 0} (tells : Type 0) (left : S → List ℕ) (most : ℕ) (start : Kept) (before after : Stamped) (feeds nexts : List Feeding) (sources rests : List S) : Type 0 where
  pub more : Stamped
  pub grown : after ≡ before ++ more
  pub works : AreWorkOf (names_of feeds) more
  pub spent : HasTooManyEvents tells left most start before after feeds nexts sources rests ⊎ BatchesSpent start (entries after)
