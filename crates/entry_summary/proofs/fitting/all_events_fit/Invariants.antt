use Rattle.std.proofs.Common.{All, take}
use Rattle.entry_model.specs.Fits.{LiveFits}
use Rattle.entry_summary.proofs.fitting.all_events_fit.Given as goal

abbrev pub invariant-loop-event : goal.invariant-loop-event
invariant-loop-event l = All (LiveFits l.restored) (take l.event-index l.event-items)
