use Rattle.std.proofs.Common.{◌≡◌, ◌+◌, length, drop, None}
use Rattle.event_store.specs.Segments.{live_in}
use Rattle.event_store.proofs.Expiring.{owed_from}
use Rattle.event_store.proofs.owed.floor_owed.Given as goal

abbrev pub invariant-loop-at : goal.invariant-loop-at
invariant-loop-at l = record {
  later : l.later + l.at ≡ length (live_in l.segments l.table);
  owed : owed_from l.limits.expiry l.limits.max l.limits.moment l.limits.reached l.owed (drop l.at (live_in l.segments l.table)) ≡ owed_from l.limits.expiry l.limits.max l.limits.moment l.limits.reached None (live_in l.segments l.table);
}
