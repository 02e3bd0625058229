use Rattle.std.proofs.Common.{All, take}
use Rattle.entry_model.specs.Fits.{TableFits}
use Rattle.entry_summary.proofs.fitting.all_tables_fit.Given as goal

abbrev pub invariant-loop-set : goal.invariant-loop-set
invariant-loop-set l = All TableFits (take l.set-index l.tables)
