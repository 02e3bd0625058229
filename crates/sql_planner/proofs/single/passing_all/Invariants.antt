use Rattle.std.proofs.Common.{◌≡◌, map, filter, take}
use Rattle.std.specs.List.{list_all}
use Rattle.sql_meaning.specs.Lent.{values_in}
use Rattle.sql_planner.specs.RowTests.{passes_some}
use Rattle.sql_planner.proofs.single.passing_all.Given as goal

abbrev pub invariant-loop-at : goal.invariant-loop-at
invariant-loop-at g l = map values_in l.rows ≡ filter (λ row. list_all (passes_some row) l.tests) (take l.at (g.V.Tables.rows_of l.view l.table.0))
