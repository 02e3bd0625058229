use Rattle.std.proofs.Common.{◌≡◌, take}
use Rattle.query_cursors.specs.Places.{places_of}
use Rattle.query_cursors.proofs.index.find_places.Given as goal

abbrev pub invariant-loop-scheduled : goal.invariant-loop-scheduled
invariant-loop-scheduled l = l.places.items ≡ places_of l.runs (take l.scheduled-index l.queries)
