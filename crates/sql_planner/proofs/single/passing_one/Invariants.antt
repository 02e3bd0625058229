use Rattle.std.proofs.Common.{◌≡◌, map, filter, take}
use Rattle.sql_meaning.specs.Expressions.{value_at}
use Rattle.sql_meaning.specs.Lent.{values_in}
use Rattle.sql_planner.specs.RowTests.{passes}
use Rattle.sql_planner.proofs.single.passing_one.Given as goal

abbrev pub invariant-loop-at : goal.invariant-loop-at
invariant-loop-at g l = map values_in l.rows ≡ filter (λ row. passes l.test (value_at row l.column)) (take l.at (g.V.Tables.rows_of l.view l.table.0))
