use Rattle.std.proofs.Common.{◌≡◌, length}
use Rattle.sql_nested.specs.Chains.{begun, traced_from}
use Rattle.sql_nested.proofs.chains.outline_of.Given as goal

abbrev pub invariant-loop-rest : goal.invariant-loop-rest
invariant-loop-rest l = traced_from l.text begun l.tokens ≡ traced_from l.text l.trace l.rest

abbrev pub decreases-loop-rest : goal.decreases-loop-rest
decreases-loop-rest l = length l.rest
