use Rattle.std.proofs.Common.{◌≡◌}
use Rattle.sql_meaning.specs.Folds.{different}
use Rattle.sql_meaning.proofs.folds.hashed.Given as goal

abbrev pub invariant-loop-value : goal.invariant-loop-value
invariant-loop-value l = l.kept.keys ≡ different l.yielded
