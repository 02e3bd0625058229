-- What a host has sent.
use Rattle.std.specs.Prelude.{◌≡◌, ◌⊎◌, ℕ, List, ◌++◌, slice_get, Some}
use Rattle.std.specs.List.{AllByRecursion}
use Rattle.entry_model.specs.declared.entry.Batch.{Batch}
use Rattle.entry_model.specs.declared.entry.Entry.{Entry}
use Rattle.entry_model.specs.Values.{commits}
use Rattle.batch_frames.specs.declared.frame.Frame.{Frame}
use Rattle.batch_frames.specs.Decodes.{IsFrameOf as IsTextOf}
use Rattle.frame_laws.specs.Laws.{frame_of}
use Rattle.batch_forwarder.specs.Frames.{IsFrameOf}

-- the frame is the host's of one of these batches
pub record IsSent (host : List ℕ) (batches : List Batch) (frame : Frame) : Type 0 where
  pub place : ℕ
  pub batch : Batch
  pub at : slice_get batches place ≡ Some batch
  pub is : frame ≡ frame_of host batch

-- each of the frames that is this host's is that of one of these batches
abbrev pub AreSent : List ℕ → List Batch → List Frame → Type 0
AreSent host batches frames = AllByRecursion (λ frame. frame.host ≡ host → IsSent host batches frame) frames

-- these bytes are the host's frame of a batch that stood in its list when that was this one, or a front of it
pub record WasSent (host : List ℕ) (entries : List Entry) (line : List ℕ) : Type 0 where
  pub before : List Entry
  pub after : List Entry
  pub are : before ++ after ≡ entries
  pub number : ℕ
  pub is : IsFrameOf host (commits before) number line

-- each of the lines that is the text of a frame of this host was sent by it
abbrev pub WereSent : List ℕ → List Entry → List (List ℕ) → Type 0
WereSent host entries lines = AllByRecursion (λ line. (frame : Frame) → IsTextOf line frame → frame.host ≡ host → WasSent host entries line) lines

-- the text of no frame
abbrev pub IsNoText : List ℕ → Type 0
IsNoText line = (frame : Frame) → IsTextOf line frame → ⊥

-- each of the lines was sent by a host, of which this is the list, or is the text of no frame
abbrev pub ComeFrom : (List ℕ → List Entry) → List (List ℕ) → Type 0
ComeFrom kept lines = AllByRecursion (λ line. IsNoText line ⊎ ((host : List ℕ) × WasSent host (kept host) line)) lines
