-- The laws of frames that are sent, and of marks.
use Rattle.std.specs.Prelude.{◌≡◌, ℕ, ◌<◌, ◌^◌, true, List, ◌++◌, length, slice_get, Option, Some}
use Rattle.entry_model.specs.declared.entry.Batch.{Batch}
use Rattle.entry_model.specs.declared.entry.Entry.{Entry}
use Rattle.entry_model.specs.Legal.{Legal}
use Rattle.entry_model.specs.Values.{commits}
use Rattle.batch_frames.specs.Valid.{is_host}
use Rattle.session_model.specs.Working.{acks_of}
use Rattle.batch_forwarder.specs.Frames.{IsFrameOf, frame_for, frame_text}
use Rattle.batch_forwarder.specs.Polling.{IsMark}

-- two frames of one host and number over one list of batches have one text
abbrev pub HaveOneText : Type 0
HaveOneText = (host : List ℕ) (batches : List Batch) (number : ℕ) (one other : List ℕ) → IsFrameOf host batches number one → IsFrameOf host batches number other → one ≡ other

-- a frame stays that of its number when batches are added
abbrev pub StayFrames : Type 0
StayFrames = (host : List ℕ) (batches later : List Batch) (number : ℕ) (frame : List ℕ) → IsFrameOf host batches number frame → IsFrameOf host (batches ++ later) number frame

-- each batch of a legal list of fewer than 2^63 entries can be sent, by every host whose name has 1 to 255 bytes
abbrev pub CommitsAreSent : Type 0
CommitsAreSent =
    (entries : List Entry) (place : ℕ) (batch : Batch) (host : List ℕ) → Legal entries → length entries < 2 ^ 63 → is_host host ≡ true
    → slice_get (commits entries) place ≡ Some batch → frame_for host batch ≡ Some (frame_text host batch)

-- a line gives a host one mark
abbrev pub MarksAreOne : Type 0
MarksAreOne = (host line : List ℕ) (one other : Option ℕ) → IsMark host line one → IsMark host line other → one ≡ other

-- what answers acknowledge may follow a legal list
abbrev pub AcksMayFollow : Type 0
AcksMayFollow = (entries : List Entry) (polled : List (Option ℕ)) → Legal entries → Legal (entries ++ acks_of entries polled)
