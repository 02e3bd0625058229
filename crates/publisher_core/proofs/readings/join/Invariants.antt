use Rattle.std.proofs.Common.{◌≡◌}
use Rattle.publisher_core.specs.Readings.{events_of, skipped_of}
use Rattle.publisher_core.proofs.readings.join.Given as goal

abbrev pub invariant-loop-piece : goal.invariant-loop-piece
invariant-loop-piece l = record {
  events : l.events ≡ events_of l.yielded;
  skipped : l.skipped ≡ skipped_of l.yielded;
}
