use Rattle.std.proofs.Common.{◌≡◌, ◌++◌}
use Rattle.sql_meaning.proofs.folds.different.Given as goal

abbrev pub invariant-loop-value : goal.invariant-loop-value
invariant-loop-value l = l.kept ++ l.value-iterator ≡ l.initial.value-iterator
