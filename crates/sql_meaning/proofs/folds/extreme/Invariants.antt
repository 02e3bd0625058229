use Rattle.std.proofs.Common.{◌≡◌}
use Rattle.sql_meaning.specs.Looks.{extreme_of}
use Rattle.sql_meaning.proofs.folds.extreme.Given as goal

abbrev pub invariant-loop-value : goal.invariant-loop-value
invariant-loop-value l = l.best ≡ extreme_of l.is_greatest l.yielded
