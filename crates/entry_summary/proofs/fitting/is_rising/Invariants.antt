use Rattle.std.proofs.Common.{◌↔◌, drop}
use Rattle.entry_model.specs.Fits.{IsRisingFrom}
use Rattle.entry_summary.proofs.fitting.is_rising.Given as goal

abbrev pub invariant-loop-event : goal.invariant-loop-event
invariant-loop-event l = IsRisingFrom l.number (drop l.event-index l.live) ↔ IsRisingFrom 0 l.live
