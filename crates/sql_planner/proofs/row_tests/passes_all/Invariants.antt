use Rattle.std.proofs.Common.{◌≡◌, length}
use Rattle.std.specs.List.{list_all}
use Rattle.sql_meaning.specs.Lent.{values_in}
use Rattle.sql_planner.specs.RowTests.{passes_some}
use Rattle.sql_planner.proofs.row_tests.passes_all.Given as goal

abbrev pub invariant-loop-rest : goal.invariant-loop-rest
invariant-loop-rest l = list_all (passes_some (values_in l.row)) l.fn.lists ≡ list_all (passes_some (values_in l.row)) l.rest

abbrev pub decreases-loop-rest : goal.decreases-loop-rest
decreases-loop-rest l = length l.rest
