use Rattle.std.proofs.Common.{◌≡◌, take}
use Rattle.fleet_query.specs.Tables.{cells_from}
use Rattle.fleet_query.proofs.tables.cells_of.Given as goal

abbrev pub invariant-loop-place : goal.invariant-loop-place
invariant-loop-place l = l.rows ≡ cells_from l.frame 0 (take l.place l.held)
