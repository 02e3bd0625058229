use Rattle.std.proofs.Common.{◌≤◌, take, drop}
use Rattle.entry_model.specs.Fits.{IsRisingFrom}
use Rattle.event_store.specs.Staging.{AreRestored}
use Rattle.event_store.proofs.loading.restore_counted.Given as goal

abbrev pub invariant-loop-event : goal.invariant-loop-event
invariant-loop-event g l = record {
  restored : AreRestored l.number (take l.event-index l.live) l.parts.items l.tail;
  rising : IsRisingFrom l.number (drop l.event-index l.live);
  known : l.number ≤ l.last;
}
