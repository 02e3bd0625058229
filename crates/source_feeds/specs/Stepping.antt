-- What a step of a feed does.
use Rattle.std.specs.Prelude.{◌≡◌, ◌⊎◌, ℕ, ◌≤◌, true, false, List, ◌++◌, length, drop}
use Rattle.std.specs.List.{AllZip}
use Rattle.osq_value.specs.declared.reading.Category.{Category}
use Rattle.osq_value.specs.declared.reading.Reading.{Reading}
use Rattle.publisher_core.specs.declared.record.Found.{Found}
use Rattle.publisher_core.specs.declared.record.ReadRecord.{ReadRecord}
use Rattle.publisher_core.specs.declared.record.Record.{Record}
use Rattle.publisher_core.specs.Found.{IsGiven, items_found}
use Rattle.publisher_core.specs.Readings.{readings_of, skipped_of}
use Rattle.publisher_core.specs.Standing.{is_at_end}
use Rattle.record_lines.specs.Limits.{STEP_BYTES}
use Rattle.source_feeds.specs.Feeding.{Fed, Feeding, counted}
use Rattle.source_feeds.specs.Taking.{FindsTo, ReadsTo, Takes, TakesAll}

-- A step took these records behind those that were given before, and the readings are theirs. Where the source tells its bytes: all records of
-- the session are those of the lines between the kept offset and the new one; the step took what a step takes of the bytes behind the offset
-- at which it began; at the source's end all lines of the session are taken; and before its end the step was full, or at least 16777216 bytes
-- stood behind that offset, and as many were read in it. The source had `before` to give when the session began, `between` when the step did, and
-- has `after` now.
pub record IsStep (tells : Type 0) (before between after : List ℕ) (old new : Feeding) (kept : ℕ) (given : List ReadRecord) (most : ℕ) (readings : List Reading) : Type 0 where
  pub pieces : List ReadRecord
  pub read : readings ≡ readings_of old.kind pieces
  pub fed : Fed tells before after new kept (given ++ pieces)
  pub few : length pieces ≤ most
  pub whole : tells → ReadsTo old.kind old.reader.paths kept (drop kept before) (given ++ pieces) new.reader.taken
  pub takes : tells → Takes old.kind old.reader.paths old.reader.taken (drop old.reader.taken before) most pieces new.reader.taken
  pub over : tells → is_at_end new.reader ≡ true → TakesAll old.kind old.reader.paths kept before (given ++ pieces) new.reader.taken
  pub still : tells → is_at_end new.reader ≡ false → (length pieces ≡ most) ⊎ (STEP_BYTES ≤ length (drop old.reader.taken before))
  pub fresh : List ℕ
  pub left : tells → between ≡ fresh ++ after
  pub reads : tells → is_at_end new.reader ≡ false → (length pieces ≡ most) ⊎ (STEP_BYTES ≤ length fresh)

-- A step showed these records, in order: those of which its readings came. Where the source tells its bytes, they are the records of the lines
-- between the offset at which the step began and the new one.
pub record IsShown (tells : Type 0) (before between after : List ℕ) (old new : Feeding) (kept : ℕ) (given : List ReadRecord) (most : ℕ) (readings : List Reading) (shown : List Record) : Type 0 where
  pub step : IsStep tells before between after old new kept given most readings
  pub found : List Found
  pub each : AllZip (IsGiven old.reader.paths) found step.pieces
  pub finds : tells → FindsTo old.kind old.reader.taken (drop old.reader.taken before) found new.reader.taken
  pub shown_are : shown ≡ items_found found

-- Of a source that had the bytes `before` to give when the session began, of which earlier sessions had `kept`, the feed counts the lines that were
-- skipped up to some place, which isn't before `from`. It does so also where a call on it has refused.
pub record Counts (tells : Type 0) (before : List ℕ) (paths : List Category) (kept from : ℕ) (feed : Feeding) : Type 0 where
  pub pieces : List ReadRecord
  pub to : ℕ
  pub behind : tells → from ≤ to
  pub reads : tells → ReadsTo feed.kind paths kept (drop kept before) pieces to
  pub skipped : feed.skipped ≡ counted (skipped_of pieces)
