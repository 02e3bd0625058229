-- Readings one after another, and what they are together.
use Rattle.std.specs.Prelude.{◌≡◌, ◌<◌, ℕ, ◌+◌, List, [], ◌∷◌, ◌++◌, map}
use Rattle.osq_value.specs.declared.reading.Reading.{Reading}
use Rattle.osq_value.specs.declared.reading.Reading.TheVariants.{Events, Table}
use Rattle.osq_value.specs.declared.value.Event.{Event}
use Rattle.publisher_core.specs.declared.record.ReadRecord.{ReadRecord}
use Rattle.osq_value.specs.declared.source.SourceKind.{SourceKind}
use Rattle.osq_value.specs.declared.source.SourceKind.TheVariants.{Audit, Changes, Tables}
use Rattle.publisher_core.specs.Readings.{events_of, skipped_of, reading_of}

-- behind which byte a reading ends
abbrev pub taken_of : Reading → ℕ
taken_of (Events taken events skipped) = taken
taken_of (Table taken table rows) = taken

-- the offsets rise, the first beyond `before`, and the last is `after`; without readings the two are the same
abbrev pub Rise : ℕ → List Reading → ℕ → Type 0
Rise before [] after = after ≡ before
Rise before (reading ∷ readings) after = (before < taken_of reading) × Rise (taken_of reading) readings after

abbrev pub events_in : Reading → List Event
events_in (Events taken events skipped) = events
events_in (Table taken table rows) = []

abbrev pub skipped_in : Reading → ℕ
skipped_in (Events taken events skipped) = skipped
skipped_in (Table taken table rows) = 0

-- the events of readings, in order
abbrev pub events_told : List Reading → List Event
events_told [] = []
events_told (reading ∷ readings) = events_in reading ++ events_told readings

-- how many lines they skipped
abbrev pub skipped_told : List Reading → ℕ
skipped_told [] = 0
skipped_told (reading ∷ readings) = skipped_in reading + skipped_told readings

-- They have all the events of these records, in order, and count all the lines that were skipped.
abbrev pub Join : List ReadRecord → List Reading → Type 0
Join pieces readings = (events_told readings ≡ events_of pieces) × (skipped_told readings ≡ skipped_of pieces)

-- These readings, joined where they have events, are the reading of these records: of a source of tables there is one for each record.
abbrev pub AreReadingsOf : SourceKind → List ReadRecord → List Reading → Type 0
AreReadingsOf Audit pieces readings = Join pieces readings
AreReadingsOf Changes pieces readings = Join pieces readings
AreReadingsOf Tables pieces readings = readings ≡ map reading_of pieces
