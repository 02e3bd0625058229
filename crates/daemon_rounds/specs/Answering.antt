-- The batches of a tick.
use Rattle.std.specs.Prelude.{◌≡◌, ℕ, ◌+◌, ◌<◌, ◌≤◌, ◌^◌, true, List, [], ◌∷◌, map, Some, None, slice_get}
use Rattle.osq_value.specs.declared.moment.TheConstants.{LAST_MOMENT}
use Rattle.sql_texts.specs.Meaning.{is_accepted}
use Rattle.entry_model.specs.declared.entry.Batch.{Batch}
use Rattle.entry_model.specs.declared.entry.Entry.{Entry}
use Rattle.entry_model.specs.declared.entry.Entry.TheVariants.{Committed}
use Rattle.pack_rules.specs.declared.schedule.Scheduled.{Scheduled}
use Rattle.session_state.specs.Kept.{IsState, Kept}
use Rattle.session_state.specs.Ticks.{first_due}
use Rattle.daemon_rounds.specs.Adding.{AreFree, AddsEntries}

-- a line can tell of the batch: its text is a query, and the calendar has its moment
pub record IsTellable (batch : Batch) : Type 0 where
  pub accepted : is_accepted batch.query.text ≡ true
  pub calendar : batch.moment ≤ LAST_MOMENT

-- each batch is made from all entries before its own place, the first of which is this one
abbrev pub AreOwn : ℕ → List Batch → Type 0
AreOwn place [] = Unit {0}
AreOwn place (batch ∷ rest) = (batch.cut ≡ place) × IsTellable batch × AreOwn (place + 1) rest

abbrev pub committed_all : List Batch → List Entry
committed_all batches = map Committed batches

-- the batch is one of the present moment, and that of the first due query, where no query was claimed
pub record AnswersFirst (old : Kept) (batch : Batch) : Type 0 where
  pub is : IsState old
  pub now : batch.moment ≡ old.counts.moment
  pub first : AreFree old.claims → (place : ℕ) × ((scheduled : Scheduled) × (first_due old ≡ Some place) × (slice_get old.schedule.queries place ≡ Some scheduled) × (batch.query ≡ scheduled.key))

-- each batch answers the query that is due first behind the batches before it
abbrev pub AnswersEach : Kept → List Batch → Kept → Type 0
AnswersEach old [] new = AddsEntries old [] new
AnswersEach old (batch ∷ rest) new = AnswersFirst old batch × ((next : Kept) × AddsEntries old (Committed batch ∷ []) next × AnswersEach next rest new)

-- each query that was due has its batch, in order, and no entry else was added
pub record AnswersDue (old new : Kept) : Type 0 where
  pub batches : List Batch
  pub brings : AddsEntries old (committed_all batches) new
  pub each : AnswersEach old batches new
  pub own : AreOwn old.counts.position batches
  pub none : first_due new ≡ None

-- some queries have their batches, in order; one is due behind them, where no query was claimed; and its batch's number would pass 2^62
pub record SpendsBatches (old : Kept) : Type 0 where
  pub batches : List Batch
  pub between : Kept
  pub brings : AddsEntries old (committed_all batches) between
  pub each : AnswersEach old batches between
  pub own : AreOwn old.counts.position batches
  pub is : IsState between
  pub due : AreFree between.claims → (place : ℕ) × (first_due between ≡ Some place)
  pub beyond : 2 ^ 62 < between.counts.batches + 1
