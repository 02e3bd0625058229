-- What a decoder answers of a line.
use Rattle.std.specs.Prelude.{◌≡◌, ℕ, List, true, Option, Some, None, Result, Ok, Err}
use Rattle.std.specs.Str.{IsUtf8}
use Rattle.serde_json.specs.Data.{Data}
use Rattle.serde_json.specs.Read.{read}
use Rattle.result_batches.specs.Frames.{hexadecimal}
use Rattle.batch_frames.specs.declared.decode.Digested.{Digested}
use Rattle.batch_frames.specs.declared.error.BadKind.{BadKind}
use Rattle.batch_frames.specs.declared.error.BadKind.TheVariants.{NotJson, WrongShape, BadDigest, NotCanonical}
use Rattle.batch_frames.specs.declared.error.FrameError.{FrameError}
use Rattle.batch_frames.specs.declared.error.FrameError.TheVariants as fault
use Rattle.batch_frames.specs.declared.frame.Frame.{Frame}
use Rattle.batch_frames.specs.declared.shape.Shown.{Shown}
use Rattle.batch_frames.specs.Shapes.{shape_of}
use Rattle.batch_frames.specs.Texts.{IsHeld, digest_of, text_of}
use Rattle.batch_frames.specs.Valid.{is_valid}

-- a valid frame that has this text
pub record IsFrameOf (text : List ℕ) (frame : Frame) : Type 0 where
  pub valid : is_valid frame ≡ true
  pub is : text ≡ text_of frame

-- the frame whose text it is
abbrev pub ReadsFrame : List ℕ → Frame → Type 0
ReadsFrame text read = (frame : Frame) → IsHeld frame → IsFrameOf text frame → read ≡ frame

-- a line that is the text of a JSON value
pub record IsJson (line : List ℕ) (value : Data) : Type 0 where
  pub utf8 : IsUtf8 line
  pub is : read line ≡ Some value

-- the JSON value of a line shows a valid frame and a digest
abbrev pub Shows : List ℕ → Shown → Type 0
Shows line shown = (value : Data) × IsJson line value × (shape_of value ≡ Some shown)

-- the first that is wrong with a line
abbrev pub IsBad : List ℕ → BadKind → Type 0
IsBad line NotJson = (value : Data) → IsJson line value → ⊥
IsBad line WrongShape = (value : Data) × IsJson line value × (shape_of value ≡ None)
IsBad line BadDigest = (shown : Shown) × Shows line shown × (shown.digest ≡ hexadecimal (digest_of shown.frame) → ⊥)
IsBad line NotCanonical = (shown : Shown) × Shows line shown × (shown.digest ≡ hexadecimal (digest_of shown.frame))

-- no frame has this text
abbrev pub IsNoFrame : List ℕ → Type 0
IsNoFrame line = (frame : Frame) → IsHeld frame → IsFrameOf line frame → ⊥

abbrev pub Decodes : List ℕ → Result Frame FrameError → Type 0
Decodes line (Ok frame) = IsFrameOf line frame
Decodes line (Err (fault.BadFrame kind)) = IsNoFrame line × IsBad line kind
Decodes line (Err fault.NoMemory) = Unit {0}

-- the same with the frame's digest
abbrev pub DecodesDigested : List ℕ → Result Digested FrameError → Type 0
DecodesDigested line (Ok found) = Decodes line (Ok found.frame) × (found.digest ≡ digest_of found.frame)
DecodesDigested line (Err error) = Decodes line (Err error)

-- the valid frame that has this text, with its digest, or nothing where no frame has it
abbrev pub Finds : List ℕ → Option Digested → Type 0
Finds line None = IsNoFrame line
Finds line (Some found) = IsFrameOf line found.frame × ReadsFrame line found.frame × (found.digest ≡ digest_of found.frame)

-- whether the digest shown is that of the frame
abbrev pub JudgesDigest : Shown → BadKind → Type 0
JudgesDigest shown NotJson = ⊥
JudgesDigest shown WrongShape = ⊥
JudgesDigest shown BadDigest = shown.digest ≡ hexadecimal (digest_of shown.frame) → ⊥
JudgesDigest shown NotCanonical = shown.digest ≡ hexadecimal (digest_of shown.frame)
