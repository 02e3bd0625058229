use Rattle.std.proofs.Common.{◌≡◌, take}
use Rattle.session_state.specs.Readers.{readers_from}
use Rattle.session_state.proofs.readers.readers_of.Given as goal

-- the readers among the queries so far
abbrev pub invariant-loop-at : goal.invariant-loop-at
invariant-loop-at l = l.places ≡ readers_from l.table.0 0 (take l.at l.queries)
