-- The sources of a session between its steps.
use Rattle.std.specs.Prelude.{◌≡◌, ◌⊎◌, ℕ, ◌+◌, ◌*◌, ◌≤◌, Bool, true, false, List, [], ◌∷◌, ◌++◌, length, drop}
use Rattle.std.specs.List.{list_all}
use Rattle.osq_value.specs.declared.reading.Category.{Category}
use Rattle.publisher_core.specs.declared.record.ReadRecord.{ReadRecord}
use Rattle.publisher_core.specs.Standing.{is_at_end}
use Rattle.record_lines.specs.Limits.{STEP_BYTES}
use Rattle.source_feeds.specs.Feeding.{Fed, Feeding}
use Rattle.source_feeds.specs.Taking.{IsBehindLastFeed, ReadsTo}
use Rattle.entry_model.specs.declared.entry.Entry.{Entry}
use Rattle.entry_model.specs.Values.{taken_from}
use Rattle.session_model.specs.Given.{Given, Source}
use Rattle.session_model.specs.Taking.{TakesStep}
use Rattle.osq_value.specs.declared.source.SourceName.{SourceName}

-- The feed of a source in a session behind the kept list `start`, where the list is now `now`: it goes on from the offset up to which the list
-- has the source; the session read the source's bytes behind what `start` has of them; and where it is at their end, the list has the source up to
-- behind its last line feed.
pub record IsFed {S : Type 0} (tells : Type 0) (left : S → List ℕ) (paths : List Category) (start now : List Entry) (source : Source) (feed : Feeding) (object : S) : Type 0 where
  pub name : feed.name ≡ source.name
  pub kind : feed.kind ≡ source.kind
  pub paths_are : feed.reader.paths ≡ paths
  pub place : feed.reader.taken ≡ taken_from now source.name
  pub pieces : List ReadRecord
  pub fed : Fed tells source.bytes (left object) feed (taken_from start source.name) pieces
  pub over : tells → is_at_end feed.reader ≡ true → IsBehindLastFeed (taken_from start source.name) source.bytes (taken_from now source.name)

-- each source has its feed, and the object that it is read from
abbrev pub AreFed : {S : Type 0} → Type 0 → (S → List ℕ) → List Category → List Entry → List Entry → List Source → List Feeding → List S → Type 0
AreFed tells left paths start now [] [] [] = Unit {0}
AreFed tells left paths start now (source ∷ sources) (feed ∷ feeds) (object ∷ objects) =
    IsFed tells left paths start now source feed object × AreFed tells left paths start now sources feeds objects
AreFed tells left paths start now _ _ _ = ⊥

-- So many steps of a source behind what this list has of it were full: each gave as many records as a step may, and these are records of lines that
-- stand there; or 16777216 bytes were read in it, which stand there too.
pub record HadFullSteps (paths : List Category) (records steps : ℕ) (start : List Entry) (source : Source) : Type 0 where
  pub by_records : ℕ
  pub by_bytes : ℕ
  pub all : steps ≡ by_records + by_bytes
  pub pieces : List ReadRecord
  pub to : ℕ
  pub read : ReadsTo source.kind paths (taken_from start source.name) (drop (taken_from start source.name) source.bytes) pieces to
  pub given : by_records * records ≤ length pieces
  pub took : by_bytes * STEP_BYTES ≤ length (drop (taken_from start source.name) source.bytes)

-- A feed that reads the source so, and has the list up to where it has the source, isn't at the source's end. So each of the steps that it took in the
-- session's ticks was full, of which there were so many.
pub record IsUnended (tells : Type 0) (paths : List Category) (records steps : ℕ) (start now : List Entry) (source : Source) : Type 0 where
  pub feed : Feeding
  pub rest : List ℕ
  pub fed : IsFed tells (λ (bytes : List ℕ). bytes) paths start now source feed rest
  pub unended : is_at_end feed.reader ≡ false
  pub full : 1 ≤ records → HadFullSteps paths records steps start source

-- each feed is at its source's end
abbrev pub all_over : List Feeding → Bool
all_over feeds = list_all (λ (feed : Feeding). is_at_end feed.reader) feeds

-- the step gave as many records as a step may, or at least 16777216 bytes stood behind the offset at which it began
abbrev pub IsFullStep : (given : Given) (kept : List Entry) (source : Source) (own : List Entry) → TakesStep given kept source own → Type 0
IsFullStep given kept source own step =
    (STEP_BYTES ≤ length (drop (taken_from kept source.name) source.bytes)) ⊎ (length step.pieces ≡ given.records)

-- a step of the source behind this list is full
abbrev pub IsFull : Given → List Entry → Source → Type 0
IsFull given kept source = (own : List Entry) × ((step : TakesStep given kept source own) × IsFullStep given kept source own step)

-- each source that isn't at its end gave a full step behind this list
abbrev pub AreFullOrOver : Given → List Entry → List Source → List Feeding → Type 0
AreFullOrOver given kept (source ∷ sources) (feed ∷ feeds) = (is_at_end feed.reader ≡ false → IsFull given kept source) × AreFullOrOver given kept sources feeds
AreFullOrOver given kept _ _ = Unit {0}

-- each of these sources takes a step, one after another, and that of one that isn't at its end is full
abbrev pub AreFullSteps : Given → List Entry → List Source → List Feeding → List Entry → Type 0
AreFullSteps given kept [] [] entries = entries ≡ []
AreFullSteps given kept (source ∷ sources) (feed ∷ feeds) entries =
    (own others : List Entry) × ((step : TakesStep given kept source own) × (is_at_end feed.reader ≡ false → IsFullStep given kept source own step) × AreFullSteps given (kept ++ own) sources feeds others × (entries ≡ own ++ others))
AreFullSteps given kept _ _ entries = ⊥

-- these sources take a step each, one after another, up to one that is such a one, whose step is full
abbrev pub HasFullStep : (Source → Type 0) → Given → List Entry → List Source → List Entry → Type 0
HasFullStep Is given kept [] entries = ⊥
HasFullStep Is given kept (source ∷ sources) entries =
    (own others : List Entry) × ((step : TakesStep given kept source own) × (entries ≡ own ++ others) × ((Is source × IsFullStep given kept source own step) ⊎ HasFullStep Is given (kept ++ own) sources others))

-- the sources of these names, with the bytes that their objects have to give
abbrev pub sources_of : {S : Type 0} → (S → List ℕ) → List SourceName → List S → List Source
sources_of left (name ∷ names) (object ∷ objects) = record { name = name.name; kind = name.kind; bytes = left object } ∷ sources_of left names objects
sources_of left _ _ = []
