-- The laws of steps one after another.
use Rattle.std.specs.Prelude.{ℕ, ◌≤◌, min, List, ◌++◌, length}
use Rattle.osq_value.specs.declared.reading.Category.{Category}
use Rattle.osq_value.specs.declared.reading.Reading.{Reading}
use Rattle.publisher_core.specs.declared.record.ReadRecord.{ReadRecord}
use Rattle.osq_value.specs.declared.source.SourceKind.{SourceKind}
use Rattle.osq_value.specs.declared.source.SourceKind.TheVariants.{Tables}
use Rattle.publisher_core.specs.Readings.{readings_of}
use Rattle.source_feeds.specs.Joining.{AreReadingsOf, Rise}
use Rattle.source_feeds.specs.Taking.{Takes, front_lines}

-- the readings of a step are the reading of its records
abbrev pub ReadOwn : Type 0
ReadOwn = (kind : SourceKind) → (pieces : List ReadRecord) → AreReadingsOf kind pieces (readings_of kind pieces)

-- readings one after another are the reading of their records one after another
abbrev pub ReadOn : Type 0
ReadOn = (kind : SourceKind) → (front back : List ReadRecord) → (xs ys : List Reading) → AreReadingsOf kind front xs → AreReadingsOf kind back ys → AreReadingsOf kind (front ++ back) (xs ++ ys)

-- and their offsets rise on
abbrev pub RiseOn : Type 0
RiseOn = (before between after : ℕ) → (xs ys : List Reading) → Rise before xs between → Rise between ys after → Rise before (xs ++ ys) after

-- a step of a source of tables takes as many records as it may, or one for each line feed of the first 16777216 bytes behind its offset
abbrev pub CountLines : Type 0
CountLines = (paths : List Category) → (from most to : ℕ) → (bytes : List ℕ) → (pieces : List ReadRecord) → Takes Tables paths from bytes most pieces to → min most (length (front_lines bytes)) ≤ length pieces
