use Rattle.std.proofs.Common.{◌≡◌, ◌-◌, ◌≤◌, [], length, take, drop}
use Rattle.event_store.specs.Queues.{above}
use Rattle.event_store.specs.Segments.{live_in}
use Rattle.event_store.proofs.segments.Segments.upto.Given as goal

abbrev pub invariant-loop-low : goal.invariant-loop-low
invariant-loop-low l = record {
  order : l.low ≤ l.high;
  within : l.high ≤ length (live_in l.self l.table);
  below : above l.number (take l.low (live_in l.self l.table)) ≡ [];
  beyond : above l.number (drop l.high (live_in l.self l.table)) ≡ drop l.high (live_in l.self l.table);
}

abbrev pub decreases-loop-low : goal.decreases-loop-low
decreases-loop-low l = l.high - l.low
