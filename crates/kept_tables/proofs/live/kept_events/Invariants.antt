use Rattle.std.proofs.Common.{◌≡◌}
use Rattle.kept_tables.specs.Loads.{events_in}
use Rattle.kept_tables.proofs.live.kept_events.Given as goal

abbrev pub invariant-loop-part : goal.invariant-loop-part
invariant-loop-part l = l.live.items ≡ events_in l.floors l.yielded
