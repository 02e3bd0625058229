use Rattle.std.proofs.Common.{◌≡◌, length}
use Rattle.sql_names.specs.Least.{lesser, least}
use Rattle.custom_tables.specs.Calls.{faults_of}
use Rattle.custom_tables.proofs.calls.call_fault.Given as goal

abbrev pub invariant-loop-rest : goal.invariant-loop-rest
invariant-loop-rest l = lesser l.place (least (faults_of l.text l.rest)) ≡ least (faults_of l.text l.fn.tokens)

abbrev pub decreases-loop-rest : goal.decreases-loop-rest
decreases-loop-rest l = length l.rest
