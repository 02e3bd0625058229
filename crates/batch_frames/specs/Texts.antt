-- The text of a frame, its digest, and what frames can hold.
use Rattle.std.specs.Prelude.{ℕ, ◌<◌, ◌^◌, List}
use lib.Signed.{mag}
use Rattle.std.specs.List.{AllByRecursion}
use Rattle.std.specs.Str.{IsUtf8}
use Rattle.sha2.specs.Sha256.{sha256}
use Rattle.osq_value.specs.declared.value.Value.{Value}
use Rattle.osq_value.specs.declared.value.Value.TheVariants.{Null, Int, Text}
use Rattle.pack_rules.specs.declared.schedule.QueryKey.{QueryKey}
use Rattle.result_batches.specs.Frames.{frame_body, frame_text}
use Rattle.batch_frames.specs.declared.frame.Frame.{Frame}

-- the text of a frame
unfoldable pub text_of : Frame → List ℕ
text_of frame = frame_text frame.host frame.names frame.batch

-- the digest of a frame
unfoldable pub digest_of : Frame → List ℕ
digest_of frame = sha256 (frame_body frame.host frame.names frame.batch)

-- a number of 64 bits is one, and a text is UTF-8
abbrev pub IsHeldValue : Value → Type 0
IsHeldValue Null = Unit {0}
IsHeldValue (Int n) = mag n < 2 ^ 63
IsHeldValue (Text text) = IsUtf8 text

pub record IsHeldQuery (query : QueryKey) : Type 0 where
  pub name : IsUtf8 query.name
  pub text : IsUtf8 query.text

-- what a frame can hold: its texts are UTF-8, and its numbers have 64 bits
pub record IsHeld (frame : Frame) : Type 0 where
  pub host : IsUtf8 frame.host
  pub query : IsHeldQuery frame.batch.query
  pub names : AllByRecursion IsUtf8 frame.names
  pub rows : AllByRecursion (λ row. AllByRecursion IsHeldValue row) frame.batch.rows
