-- The threads of a step, before they work and behind that.
use Rattle.std.specs.List.{AllZip}
use Rattle.std.specs.Prelude.{◌≡◌, ◌≢◌, ℕ, All, List, [], ◌∷◌, length, OnOk, Err}
use Rattle.osq_outside.specs.Causes.{FaultHasCause}
use Rattle.source_feeds.specs.Feeding.{Feeding}
use Rattle.turn_lock.specs.Turns.{entries}
use Rattle.turn_lock.specs.Words.{number, seen, IsAtRest, IsSame}
use Rattle.shared_store.specs.declared.store.Store.{Store}
use Rattle.shared_store.specs.Turns.{notes_of}
use Rattle.shared_store.specs.Words.{IsSeatOf, start_of}
use Rattle.daemon_rounds.specs.Turns.{StillCounts}
use Rattle.thread_laws.specs.Jobs.{AddsOwn}
use Rattle.thread_laws.specs.Reached.{NoneDue}
use Rattle.thread_jobs.specs.declared.error.JobError.{JobError}
use Rattle.thread_jobs.specs.declared.error.JobError.TheVariants as job
use Rattle.thread_jobs.specs.declared.forking.Job.{Job}
use Rattle.thread_jobs.specs.Publishing.{HasTooMuch, IsGoingFrom, IsIntruded, IsTaken, TakesPart}
use Rattle.thread_jobs.specs.Working.{AnswersOf, BatchesSpent}

-- the job's seat is one of the store and at rest
pub record MayWork (store : Store) (job : Job) : Type 0 where
  pub of : IsSeatOf store job.seat
  pub rest : IsAtRest job.seat

-- and the feed goes on from what the seat has seen
pub record MayPublish (store : Store) (job : Job) (feed : Feeding) : Type 0 where
  pub may : MayWork store job
  pub going : IsGoingFrom (start_of store) (notes_of job.seat) feed

-- the seat comes back at rest, with the job's place
pub record ComesBack (old new : Job) : Type 0 where
  pub same : IsSame old.seat new.seat
  pub rest : IsAtRest new.seat
  pub who : new.who ≡ old.who

-- A publisher's job is done, by whatever store its seat is of: its clauses are those of `publish`.
pub record IsPublisherDone {S : Type 0} (tells : Type 0) (left : S → List ℕ) (faults : S → ℕ) (most : ℕ) (old new : Job) (feed next : Feeding) (source rest : S) : Type 0 where
  pub back : ComesBack old new
  pub name : next.name ≡ feed.name
  pub kind : next.kind ≡ feed.kind
  pub counts : StillCounts tells (left source) feed next
  pub part : TakesPart tells (left source) (left rest) most (number old.seat) (seen old.seat) (seen new.seat) feed next
  pub unread : new.end ≡ Err job.SourceFault → AddsOwn (number old.seat) (seen old.seat) (seen new.seat) []
  pub taken : OnOk new.end (IsTaken tells (left source) (left rest) most (number old.seat) (seen old.seat) (seen new.seat) feed next)
  pub intruded : new.end ≡ Err job.Intruded → IsIntruded (number old.seat) (seen old.seat) (seen new.seat) feed.name
  pub spent : (store : Store) → IsSeatOf store old.seat → new.end ≡ Err job.NumbersSpent → HasTooMuch tells (left source) (left rest) most (start_of store) (number old.seat) (seen old.seat) (seen new.seat) feed next
  pub cause : FaultHasCause job.SourceFault (faults source) (faults rest) new.end

-- A worker's job is done, by whatever store its seat is of: its clauses are those of `work`.
pub record IsWorkerDone (old new : Job) : Type 0 where
  pub back : ComesBack old new
  pub own : (store : Store) → IsSeatOf store old.seat → AnswersOf (start_of store) (number old.seat) (seen old.seat) (seen new.seat)
  pub none : (store : Store) → IsSeatOf store old.seat → OnOk new.end (NoneDue (start_of store) (entries (seen new.seat)))
  pub spent : (store : Store) → IsSeatOf store old.seat → new.end ≡ Err job.NumbersSpent → BatchesSpent (start_of store) (entries (seen new.seat))
  pub only : (new.end ≢ Err job.SourceFault) × (new.end ≢ Err job.Intruded)

-- each publisher's job is done, and stands in its place with its feed and its source
abbrev pub ArePublishersDone : {S : Type 0} → Type 0 → (S → List ℕ) → (S → ℕ) → ℕ → List Job → List Job → List Feeding → List Feeding → List S → List S → Type 0
ArePublishersDone tells left faults most [] [] [] [] [] [] = Unit {0}
ArePublishersDone tells left faults most (old ∷ olds) (new ∷ news) (feed ∷ feeds) (next ∷ nexts) (source ∷ sources) (rest ∷ rests) =
    IsPublisherDone tells left faults most old new feed next source rest × ArePublishersDone tells left faults most olds news feeds nexts sources rests
ArePublishersDone tells left faults most _ _ _ _ _ _ = ⊥

pub record PublishersDone {S : Type 0} (tells : Type 0) (left : S → List ℕ) (faults : S → ℕ) (most : ℕ) (olds news : List Job) (feeds nexts : List Feeding) (sources rests : List S) : Type 0 where
  pub each : ArePublishersDone tells left faults most olds news feeds nexts sources rests

pub record WorkersDone (olds news : List Job) : Type 0 where
  pub each : AllZip IsWorkerDone olds news

-- there is a feed and a source for each job
pub record ArePaired {S : Type 0} (jobs : List Job) (feeds : List Feeding) (sources : List S) : Type 0 where
  pub feeds_long : length feeds ≡ length jobs
  pub sources_long : length sources ≡ length jobs

-- publishers that may work, each with the feed in its place
pub record MayPublishAll (store : Store) (jobs : List Job) (feeds : List Feeding) : Type 0 where
  pub each : AllZip (MayPublish store) jobs feeds

pub record MayWorkAll (store : Store) (jobs : List Job) : Type 0 where
  pub each : All (MayWork store) jobs
