use Rattle.std.proofs.Common.{◌≡◌, length}
use Rattle.std.specs.List.{list_all}
use Rattle.virtual_tables.specs.Tests.{passes}
use Rattle.virtual_tables.proofs.constraint.passes_all.Given as goal

abbrev pub invariant-loop-rest : goal.invariant-loop-rest
invariant-loop-rest l = list_all (passes l.row) l.fn.tests ≡ list_all (passes l.row) l.rest

abbrev pub decreases-loop-rest : goal.decreases-loop-rest
decreases-loop-rest l = length l.rest
