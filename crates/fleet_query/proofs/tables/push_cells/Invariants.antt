use Rattle.std.proofs.Common.{◌≡◌, ◌++◌, map, take}
use Rattle.std.specs.Prelude.{zip}
use Rattle.fleet_query.specs.Tables.{cell}
use Rattle.fleet_query.proofs.tables.push_cells.Given as goal

abbrev pub invariant-loop-at : goal.invariant-loop-at
invariant-loop-at l = l.rows ≡ l.initial.rows ++ map (cell l.frame l.place) (take l.at (zip l.names l.values))
