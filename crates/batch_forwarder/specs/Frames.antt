-- The frames of a host's sealed batches.
use Rattle.std.specs.Prelude.{◌≡◌, ◌≤◌, ℕ, ◌-◌, ◌&&◌, Bool, if◌then◌else◌, List, map, take, drop, slice_get, Option, Some, None}
use Rattle.sql_texts.specs.Meaning.{is_accepted, names_of}
use Rattle.entry_model.specs.declared.entry.Batch.{Batch}
use Rattle.entry_model.specs.declared.entry.Entry.{Entry}
use Rattle.entry_model.specs.Values.{acked_upto, commits}
use Rattle.batch_frames.specs.Texts.{text_of}
use Rattle.batch_frames.specs.Valid.{is_valid}
use Rattle.frame_laws.specs.Laws.{frame_of}
use Rattle.batch_forwarder.specs.Windows.{IN_FLIGHT}

-- the names of the columns of an accepted text's result, and nothing for every other
abbrev pub names_in : List ℕ → Option (List (List ℕ))
names_in text = if is_accepted text then Some (names_of text) else None

-- the text of a host's batch, as it is sent: that of its frame under the names of its query's columns
abbrev pub frame_text : List ℕ → Batch → List ℕ
frame_text host batch = text_of (frame_of host batch)

-- the batch can be sent: its text is accepted, and its frame is valid
abbrev pub has_frame : List ℕ → Batch → Bool
has_frame host batch = is_accepted batch.query.text && is_valid (frame_of host batch)

-- what is sent of a batch, if it can be
abbrev pub frame_for : List ℕ → Batch → Option (List ℕ)
frame_for host batch = if has_frame host batch then Some (frame_text host batch) else None

-- these bytes are this host's frame of the batch that has this number among these batches, counted from 1
pub record IsFrameOf (host : List ℕ) (batches : List Batch) (number : ℕ) (frame : List ℕ) : Type 0 where
  pub first : 1 ≤ number
  pub batch : Batch
  pub at : slice_get batches (number - 1) ≡ Some batch
  pub text : frame ≡ frame_text host batch

-- the frames that a host has to send behind these entries: those of the first batches that aren't acknowledged, of which no more than 64
-- are under way
abbrev pub frames_due : List ℕ → List Entry → List (List ℕ)
frames_due host entries = map (frame_text host) (take IN_FLIGHT (drop (acked_upto entries) (commits entries)))
