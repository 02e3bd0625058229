use Rattle.std.proofs.Common.{◌≡◌, length}
use Rattle.sql_faults.specs.Stack.{expects}
use Rattle.sql_faults.specs.Reading.{faults, least_from, first_fault}
use Rattle.sql_faults.proofs.recognizer.least_fault.Given as goal

abbrev pub invariant-loop-rest : goal.invariant-loop-rest
invariant-loop-rest l = first_fault (expects l.fn.parts.items) l.tokens ≡ least_from l.least (faults (expects l.parts.items) l.rest)

abbrev pub decreases-loop-rest : goal.decreases-loop-rest
decreases-loop-rest l = length l.rest
