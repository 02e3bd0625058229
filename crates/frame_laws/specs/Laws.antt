-- The laws of frames.
use Rattle.std.specs.Prelude.{◌≡◌, ℕ, ◌<◌, ◌^◌, true, List, ◌∷◌, ◌++◌, length, Some}
use Rattle.sql_texts.specs.Meaning.{names_of}
use Rattle.entry_model.specs.declared.entry.Batch.{Batch}
use Rattle.entry_model.specs.declared.entry.Entry.{Entry}
use Rattle.entry_model.specs.declared.entry.Entry.TheVariants.{Committed}
use Rattle.entry_model.specs.Legal.{Legal}
use Rattle.batch_keeper.specs.Fetching.{fetched}
use Rattle.batch_frames.specs.declared.frame.Frame.{Frame}
use Rattle.batch_frames.specs.Valid.{is_host, is_valid}

-- the frame of a host's batch: its names are those of the columns of its query
abbrev pub frame_of : List ℕ → Batch → Frame
frame_of host batch = record { host = host; batch = batch; names = names_of batch.query.text }

-- each batch of a legal list makes a valid frame
abbrev pub CommitsMakeFrames : Type 0
CommitsMakeFrames =
    (before after : List Entry) (batch : Batch) (host : List ℕ) → Legal (before ++ Committed batch ∷ after) → length before < 2 ^ 63 → is_host host ≡ true → is_valid (frame_of host batch) ≡ true

-- the batch of this number that is fetched from a legal list has this number
abbrev pub FetchedIsNumbered : Type 0
FetchedIsNumbered = (entries : List Entry) (number : ℕ) (batch : Batch) → Legal entries → fetched entries number ≡ Some batch → batch.number ≡ number

-- the batch was committed between these entries
pub record IsCommitted (entries : List Entry) (batch : Batch) : Type 0 where
  pub before : List Entry
  pub after : List Entry
  pub are : entries ≡ before ++ Committed batch ∷ after

-- a batch that is fetched stands in the list
abbrev pub FetchedIsCommitted : Type 0
FetchedIsCommitted = (entries : List Entry) (number : ℕ) (batch : Batch) → fetched entries number ≡ Some batch → IsCommitted entries batch

-- a batch that is fetched from a legal list makes a valid frame
abbrev pub FetchedMakesFrame : Type 0
FetchedMakesFrame =
    (entries : List Entry) (number : ℕ) (batch : Batch) (host : List ℕ) → Legal entries → length entries < 2 ^ 63 → fetched entries number ≡ Some batch → is_host host ≡ true → is_valid (frame_of host batch) ≡ true
