-- What the threads of a step have added together, once their seats are joined.
use Rattle.std.specs.Prelude.{◌≡◌, ◌≢◌, ℕ, ◌<◌, ◌≤◌, ◌==◌, true, All, Contains, List, ◌++◌, map, bytes_eq}
use Rattle.std.specs.List.{AllZip}
use Rattle.osq_value.specs.declared.reading.Reading.{Reading}
use Rattle.entry_model.specs.Fits.{IsDistinct}
use Rattle.session_state.specs.Kept.{Kept}
use Rattle.turn_lock.specs.Own.{own}
use Rattle.turn_lock.specs.Turns.{Grows, entries}
use Rattle.shared_store.specs.declared.noted.Noted.{Noted}
use Rattle.thread_laws.specs.Jobs.{IsAnswerNote, IsNoteOf, IsPublished, IsWorked, Stamped, is_noted_from}
use Rattle.thread_laws.specs.Reached.{NoneDue}

-- A publisher's part of a step: the number of its seat, the name of its source, and what that gave.
pub record Part : Type 0 where
  pub number : ℕ
  pub name : List ℕ
  pub readings : List Reading

-- the numbers of the seats of these workers and publishers
abbrev pub numbers_of : List ℕ → List Part → List ℕ
numbers_of workers parts = workers ++ map (λ (part : Part). part.number) parts

-- the list that its seat had seen when its thread ended begins the joined one, which behind it has nothing of the seat's
pub record HasPublished (before all : Stamped) (part : Part) : Type 0 where
  pub after : Stamped
  pub is : IsPublished part.number before after part.name part.readings
  pub joined : Grows (λ number. number ≢ part.number) after all

pub record HasWorked (before all : Stamped) (worker : ℕ) : Type 0 where
  pub after : Stamped
  pub is : IsWorked worker before after
  pub joined : Grows (λ number. number ≢ worker) after all

-- the same of a worker's seat whose thread ended where no query was due
pub record HasEnded (start : Kept) (before all : Stamped) (worker : ℕ) : Type 0 where
  pub worked : HasWorked before all worker
  pub none : NoneDue start (entries worked.after)

-- Of the notes of a step those under a publisher's number are of its source's readings, each one, in order, and those under a worker's are answers. No two
-- seats have one number, and each note has one of theirs.
pub record AreAdded (parts : List Part) (workers : List ℕ) (more : Stamped) : Type 0 where
  pub published : All (λ (part : Part). AllZip (IsNoteOf part.name) part.readings (own part.number more)) parts
  pub answered : All (λ (worker : ℕ). All IsAnswerNote (own worker more)) workers
  pub distinct : IsDistinct ◌==◌ (numbers_of workers parts)
  pub numbered : All (λ (note : ℕ × Noted). Contains (numbers_of workers parts) note.0) more

-- Whatever comes of the threads of a step: under the number of each publisher's seat there are notes of the source of this name alone, and under a worker's there
-- are answers alone. No two publishers have one source, no two seats one number, and each note has one of theirs.
pub record AreApart (publishers : List (ℕ × List ℕ)) (workers : List ℕ) (more : Stamped) : Type 0 where
  pub published : All (λ (one : ℕ × List ℕ). All (λ (note : Noted). is_noted_from one.1 note ≡ true) (own one.0 more)) publishers
  pub answered : All (λ (worker : ℕ). All IsAnswerNote (own worker more)) workers
  pub names : IsDistinct bytes_eq (map (λ (one : ℕ × List ℕ). one.1) publishers)
  pub distinct : IsDistinct ◌==◌ (workers ++ map (λ (one : ℕ × List ℕ). one.0) publishers)
  pub numbered : All (λ (note : ℕ × Noted). Contains (workers ++ map (λ (one : ℕ × List ℕ). one.0) publishers) note.0) more

-- the numbers 1, 2, .. up to this one are all among these
abbrev pub HasEach : ℕ → List ℕ → Type 0
HasEach most numbers = (number : ℕ) → 0 < number → number ≤ most → Contains numbers number
