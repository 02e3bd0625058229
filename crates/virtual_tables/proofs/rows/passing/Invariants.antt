use Rattle.std.proofs.Common.{◌≡◌, map, filter, take}
use Rattle.std.specs.List.{list_all}
use Rattle.virtual_tables.specs.Tests.{passes}
use Rattle.virtual_tables.proofs.rows.passing.Given as goal

abbrev pub invariant-loop-at : goal.invariant-loop-at
invariant-loop-at g l = map (λ row. row.now) l.rows ≡ filter (λ row. list_all (passes row) l.tests) (take l.at (g.V.Tables.rows_of l.view l.table.0))
