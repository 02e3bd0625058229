use Rattle.std.proofs.Common.{take}
use Rattle.sql_planner.specs.Pushing.{AreRows}
use Rattle.sql_planner.proofs.wide.is_wide.Given as goal

abbrev pub invariant-loop-at : goal.invariant-loop-at
invariant-loop-at g l = AreRows l.width (take l.at (g.V.Tables.rows_of l.view l.table.0))
