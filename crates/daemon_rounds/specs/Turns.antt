-- The turn of one source in a round.
use Rattle.std.specs.Prelude.{◌≡◌, ℕ, ◌≤◌, Bool, true, false, List, [], All}
use Rattle.osq_value.specs.declared.reading.Reading.{Reading}
use Rattle.publisher_core.specs.declared.record.ReadRecord.{ReadRecord}
use Rattle.osq_value.specs.declared.source.SourceKind.{SourceKind}
use Rattle.osq_value.specs.declared.source.SourceKind.TheVariants as kind
use Rattle.source_feeds.specs.Feeding.{Fed, Feeding, SameFeed}
use Rattle.source_feeds.specs.Joining.{Rise}
use Rattle.source_feeds.specs.Readings.{IsReading}
use Rattle.source_feeds.specs.Stepping.{Counts, IsStep}
use Rattle.entry_model.specs.declared.entry.Entry.{Entry}
use Rattle.entry_model.specs.declared.restored.Taken.{Taken}
use Rattle.entry_model.specs.Next.{offset_at}
use Rattle.session_state.specs.Kept.{Kept}
use Rattle.daemon_rounds.specs.Adding.{AddsEntries}
use Rattle.daemon_rounds.specs.Appending.{Exceeds, entries_of}
use Rattle.daemon_rounds.specs.declared.turning.Which.{Which}
use Rattle.daemon_rounds.specs.declared.turning.Which.TheVariants as which

-- a feed that may take a step: it was started, no call on it has refused, and it goes on from the offset up to which its source was taken
pub record IsGoing (taken : List Taken) (feed : Feeding) : Type 0 where
  pub begun : feed.reader.is_begun ≡ true
  pub unspent : feed.reader.is_spent ≡ false
  pub place : feed.reader.taken ≡ offset_at taken feed.name

-- whether a source of this kind takes a step
abbrev pub takes_part : Which → SourceKind → Bool
takes_part which.Every kind = true
takes_part which.Tables kind.Audit = false
takes_part which.Tables kind.Changes = false
takes_part which.Tables kind.Tables = true

-- a source before its turn and behind it, and the readings that it gave
pub record Turn (S : Type 0) : Type 0 where
  pub feed : Feeding
  pub next : Feeding
  pub source : S
  pub rest : S
  pub readings : List Reading

-- One step of the feed, of at most so many records, gave these readings: whatever the session had taken of the source before, they are those of
-- a step behind it. The source had the bytes `before` to give, and has `after` now.
pub record Gave (tells : Type 0) (before after : List ℕ) (feed next : Feeding) (most : ℕ) (readings : List Reading) : Type 0 where
  pub steps : (bytes : List ℕ) (kept : ℕ) (given : List ReadRecord) → Fed tells bytes before feed kept given → IsStep tells bytes before after feed next kept given most readings
  pub each : All IsReading readings
  pub rise : Rise feed.reader.taken readings next.reader.taken
  pub same : SameFeed feed next

-- Whatever the session had taken of the source before, the feed goes on counting the lines that are skipped, also where a call on it has refused.
pub record StillCounts (tells : Type 0) (before : List ℕ) (feed next : Feeding) : Type 0 where
  pub name : next.name ≡ feed.name
  pub kind : next.kind ≡ feed.kind
  pub counts : (bytes : List ℕ) (kept : ℕ) (given : List ReadRecord) → Fed tells bytes before feed kept given → Counts tells bytes feed.reader.paths kept feed.reader.taken next

-- nothing was read
pub record IsIdle {S : Type 0} (turn : Turn S) : Type 0 where
  pub feed : turn.next ≡ turn.feed
  pub source : turn.rest ≡ turn.source
  pub none : turn.readings ≡ []

-- a source that takes part takes a step
abbrev pub Plays : {S : Type 0} → Type 0 → (S → List ℕ) → ℕ → Bool → Turn S → Type 0
Plays tells left most true turn = Gave tells (left turn.source) (left turn.rest) turn.feed turn.next most turn.readings
Plays tells left most false turn = IsIdle turn

-- `left` is what a source has left to give, and `faults` is how often it failed
pub record IsTurn {S : Type 0} (tells : Type 0) (left : S → List ℕ) (faults : S → ℕ) (which : Which) (most : ℕ) (turn : Turn S) : Type 0 where
  pub plays : Plays tells left most (takes_part which turn.feed.kind) turn
  pub later : faults turn.source ≤ faults turn.rest

-- the entries of its readings
abbrev pub turn_entries : {S : Type 0} → ℕ → Turn S → List Entry
turn_entries moment turn = entries_of turn.feed.name moment turn.readings

abbrev pub turn_of : {S : Type 0} → Feeding → Feeding → S → S → List Reading → Turn S
turn_of feed next source rest readings =
    record { feed = feed; next = next; source = source; rest = rest; readings = readings }

-- the source had its turn, and what it gave was appended
pub record HasTurn {S : Type 0} (tells : Type 0) (left : S → List ℕ) (faults : S → ℕ) (which : Which) (most : ℕ) (feed next : Feeding) (source rest : S) (old new : Kept) : Type 0 where
  pub readings : List Reading
  pub is : IsTurn tells left faults which most (turn_of feed next source rest readings)
  pub brings : AddsEntries old (entries_of feed.name old.counts.moment readings) new

-- it had its turn, and one of its readings has too many events
pub record HasTooMuch {S : Type 0} (tells : Type 0) (left : S → List ℕ) (faults : S → ℕ) (which : Which) (most : ℕ) (feed next : Feeding) (source rest : S) (old new : Kept) : Type 0 where
  pub readings : List Reading
  pub is : IsTurn tells left faults which most (turn_of feed next source rest readings)
  pub exceeds : Exceeds feed.name readings old new
