-- The readings of a step.
use Rattle.std.specs.Prelude.{ℕ, ◌+◌, ◌-◌, List, [], ◌∷◌, length, slice_get, map, flat_map}
use Rattle.std.specs.Option.{option_to_list, option_map_or}
use Rattle.osq_value.specs.declared.reading.Reading.{Reading}
use Rattle.osq_value.specs.declared.reading.Reading.TheVariants as reading
use Rattle.osq_value.specs.declared.value.Event.{Event}
use Rattle.osq_value.specs.declared.source.SourceKind.{SourceKind}
use Rattle.osq_value.specs.declared.source.SourceKind.TheVariants.{Audit, Changes, Tables}
use Rattle.publisher_core.specs.declared.record.Gain.{Gain}
use Rattle.publisher_core.specs.declared.record.Gain.TheVariants as gain
use Rattle.publisher_core.specs.declared.record.ReadRecord.{ReadRecord}

abbrev pub events_in : Gain → List Event
events_in (gain.Event event skipped) = option_to_list event
events_in (gain.Table table rows) = []

abbrev pub skipped_in : Gain → ℕ
skipped_in (gain.Event event skipped) = skipped
skipped_in (gain.Table table rows) = 0

abbrev pub events_of : List ReadRecord → List Event
events_of pieces = flat_map (λ (piece : ReadRecord). events_in piece.gain) pieces

abbrev pub skipped_of : List ReadRecord → ℕ
skipped_of [] = 0
skipped_of (piece ∷ pieces) = skipped_in piece.gain + skipped_of pieces

-- the reading of one line of a source of tables
abbrev pub reading_of : ReadRecord → Reading
reading_of piece = by_gain piece.gain where
  by_gain : Gain → Reading
  by_gain (gain.Event event skipped) = reading.Events piece.end (option_to_list event) skipped
  by_gain (gain.Table table rows) = reading.Table piece.end table rows

-- the one reading of the records of an audit log or of changes: their events joined, and the lines that were skipped counted
abbrev pub joined : List ReadRecord → List Reading
joined pieces = option_map_or (λ (last : ReadRecord). reading.Events last.end (events_of pieces) (skipped_of pieces) ∷ []) (slice_get pieces (length pieces - 1)) []

-- a source of tables gives a reading for each line
abbrev pub readings_of : SourceKind → List ReadRecord → List Reading
readings_of Audit pieces = joined pieces
readings_of Changes pieces = joined pieces
readings_of Tables pieces = map reading_of pieces
