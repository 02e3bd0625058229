use Rattle.std.proofs.Common.{All, take}
use Rattle.entry_model.specs.Fits.{RunFits}
use Rattle.entry_summary.proofs.fitting.all_runs_fit.Given as goal

abbrev pub invariant-loop-run : goal.invariant-loop-run
invariant-loop-run l = All (RunFits l.restored) (take l.run-index l.run-items)
