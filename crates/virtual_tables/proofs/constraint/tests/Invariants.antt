use Rattle.std.proofs.Common.{◌≡◌, map, take}
use Rattle.virtual_tables.specs.Tests.{tested}
use Rattle.virtual_tables.proofs.constraint.tests.Given as goal

abbrev pub invariant-loop-constraint : goal.invariant-loop-constraint
invariant-loop-constraint l = l.tests ≡ map (tested l.table.0) (take l.constraint-index l.constraints)
