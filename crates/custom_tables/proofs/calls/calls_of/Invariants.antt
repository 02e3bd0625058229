use Rattle.std.proofs.Common.{◌≡◌, ◌++◌, length}
use Rattle.custom_tables.specs.Calls.{calls_of}
use Rattle.custom_tables.proofs.calls.calls_of.Given as goal

abbrev pub invariant-loop-rest : goal.invariant-loop-rest
invariant-loop-rest l = l.calls ++ calls_of l.text l.rest ≡ calls_of l.text l.fn.tokens

abbrev pub decreases-loop-rest : goal.decreases-loop-rest
decreases-loop-rest l = length l.rest
