use Rattle.std.proofs.Common.{◌≡◌, map, take}
use Rattle.fleet_query.specs.Tables.{batch_row}
use Rattle.fleet_query.proofs.tables.batch_rows.Given as goal

abbrev pub invariant-loop-frame : goal.invariant-loop-frame
invariant-loop-frame l = l.rows ≡ map batch_row (take l.frame-index l.frames)
