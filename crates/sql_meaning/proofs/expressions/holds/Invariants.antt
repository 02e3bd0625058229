use Rattle.std.proofs.Common.{◌≡◌, map, length}
use Rattle.sql_query.specs.View.{expr_of}
use Rattle.sql_meaning.specs.Expressions.{holds}
use Rattle.sql_meaning.specs.Over.{environment_of}
use Rattle.sql_meaning.proofs.expressions.holds.Given as goal

abbrev pub invariant-loop-rest : goal.invariant-loop-rest
invariant-loop-rest l = holds (environment_of l.over) (map expr_of l.fn.parts) ≡ holds (environment_of l.over) (map expr_of l.rest)

abbrev pub decreases-loop-rest : goal.decreases-loop-rest
decreases-loop-rest l = length l.rest
