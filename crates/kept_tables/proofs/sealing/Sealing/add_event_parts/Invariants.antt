use Rattle.std.proofs.Common.{◌≡◌, map}
use Rattle.kept_tables.specs.Sealing.{event_change, with_changes}
use Rattle.kept_tables.proofs.sealing.Sealing.add_event_parts.Given as goal

abbrev pub invariant-loop-part : goal.invariant-loop-part
invariant-loop-part l = l.self ≡ with_changes l.initial.self (map (event_change l.table.0 l.moment) l.yielded)
