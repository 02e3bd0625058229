use Rattle.std.proofs.Common.{◌≡◌, length}
use Rattle.sql_scalar.specs.Choices.{first_known}
use Rattle.sql_scalar.proofs.choices.first_known.Given as goal

abbrev pub invariant-loop-first : goal.invariant-loop-first
invariant-loop-first l = first_known l.fn.values ≡ first_known l.rest

abbrev pub decreases-loop-first : goal.decreases-loop-first
decreases-loop-first l = length l.rest
