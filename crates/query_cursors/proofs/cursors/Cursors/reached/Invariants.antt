use Rattle.std.proofs.Common.{◌≡◌, map, take}
use Rattle.entry_model.specs.Views.{least_of}
use Rattle.query_cursors.specs.Places.{cursor_at}
use Rattle.query_cursors.proofs.cursors.Cursors.reached.Given as goal

-- the least cursor of those so far
abbrev pub invariant-loop-at : goal.invariant-loop-at
invariant-loop-at l = l.least ≡ least_of (map (cursor_at l.self) (take l.at-index l.readers))
