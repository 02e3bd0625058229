-- What one thread of a step adds by its own seat.
use Rattle.std.specs.Prelude.{◌≡◌, ℕ, Bool, false, All, List, ◌++◌}
use Rattle.std.specs.List.{AllZip}
use Rattle.osq_value.specs.declared.reading.Reading.{Reading}
use Rattle.entry_model.specs.declared.entry.Entry.{Entry}
use Rattle.entry_model.specs.declared.entry.Entry.TheVariants.{Committed}
use Rattle.session_model.specs.Taking.{is_from}
use Rattle.session_state.specs.Readings.{entry_of}
use Rattle.session_state.specs.Sealing.{IsSendable}
use Rattle.turn_lock.specs.Own.{own}
use Rattle.shared_store.specs.declared.noted.Noted.{Noted}
use Rattle.shared_store.specs.declared.noted.Noted.TheVariants.{Added, Given, Taken}

-- notes that seats have seen, each with the number of the seat that added it
abbrev pub Stamped : Type 0
Stamped = List (ℕ × Noted)

-- Behind what it had seen the seat of this number has seen these notes of its own, in order, and any of others between them.
pub record AddsOwn (number : ℕ) (before after : Stamped) (notes : List Noted) : Type 0 where
  pub more : Stamped
  pub grown : after ≡ before ++ more
  pub are : own number more ≡ notes

-- the note of a reading of the source, whatever the moment at which it was added
abbrev pub IsNoteOf : List ℕ → Reading → Noted → Type 0
IsNoteOf name reading note = (moment : ℕ) × (note ≡ Added (entry_of name moment reading))

-- A publisher's seat has added these readings of its source, each one, in order, and nothing else.
pub record IsPublished (number : ℕ) (before after : Stamped) (name : List ℕ) (readings : List Reading) : Type 0 where
  pub notes : List Noted
  pub adds : AddsOwn number before after notes
  pub each : AllZip (IsNoteOf name) readings notes

abbrev pub is_noted_from : List ℕ → Noted → Bool
is_noted_from name (Added entry) = is_from name entry
is_noted_from name Taken = false
is_noted_from name (Given cut) = false

-- a batch that can be sent
abbrev pub IsAnswer : Entry → Type 0
IsAnswer (Committed batch) = IsSendable batch
IsAnswer _ = ⊥

-- the note of a cut that was given, or of a batch that can be sent
abbrev pub IsAnswerNote : Noted → Type 0
IsAnswerNote (Added entry) = IsAnswer entry
IsAnswerNote Taken = ⊥
IsAnswerNote (Given cut) = Unit {0}

-- A worker's seat has added batches alone, each of which can be sent.
pub record IsWorked (number : ℕ) (before after : Stamped) : Type 0 where
  pub notes : List Noted
  pub adds : AddsOwn number before after notes
  pub each : All IsAnswerNote notes
