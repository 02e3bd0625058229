-- The events of an image above a number.
use Rattle.std.specs.Prelude.{◌≡◌, ℕ, map}
use Rattle.event_store.specs.Queues.{above}
use Rattle.event_store.specs.Segments.{Numbered}
use Rattle.event_store.specs.Contents.{Contents}
use Rattle.event_store.specs.declared.slice.EventSlice.{EventSlice}

abbrev pub events_above : ℕ → Contents → Numbered
events_above number image = record { last = image.last; live = map (above number) image.live }

-- the slice of these events
abbrev pub slice_above : ℕ → Contents → EventSlice
slice_above number image = record { above = number; events = events_above number image }

-- the slice has the image's events above its number
abbrev pub IsSliceOf : Contents → EventSlice → Type 0
IsSliceOf image slice = slice.events ≡ events_above slice.above image
