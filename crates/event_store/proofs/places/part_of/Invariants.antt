use Rattle.std.proofs.Common.{◌+◌, ◌-◌, ◌<◌, ◌≤◌, length, take}
use Rattle.event_store.specs.Segments.{joined, before_all}
use Rattle.event_store.proofs.places.part_of.Given as goal

abbrev pub invariant-loop-low : goal.invariant-loop-low
invariant-loop-low l = record {
  order : l.low ≤ l.high;
  within : l.high ≤ length l.parts;
  behind : before_all l.table l.parts + length (joined l.table (take l.low l.parts)) ≤ l.place;
  ahead : l.high < length l.parts → l.place < before_all l.table l.parts + length (joined l.table (take (l.high + 1) l.parts));
}

abbrev pub decreases-loop-low : goal.decreases-loop-low
decreases-loop-low l = l.high - l.low
