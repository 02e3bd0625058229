use Rattle.std.proofs.Common.{◌≡◌, take}
use Rattle.pack_rules.specs.declared.schedule.QueryKey.{QueryKey}
use Rattle.query_cursors.specs.Places.{place_of}
use Rattle.query_cursors.specs.Known.{known_at}
use Rattle.query_cursors.proofs.index.known_places.Given as goal

-- the places of the runs so far are known
abbrev pub invariant-loop-at : goal.invariant-loop-at
invariant-loop-at l = (query : QueryKey) → known_at l.known query ≡ place_of (take l.at l.runs) query
