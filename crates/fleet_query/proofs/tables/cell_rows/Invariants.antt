use Rattle.std.proofs.Common.{◌≡◌, take}
use Rattle.std.specs.Prelude.{flat_map}
use Rattle.fleet_query.specs.Tables.{cells_of}
use Rattle.fleet_query.proofs.tables.cell_rows.Given as goal

abbrev pub invariant-loop-frame : goal.invariant-loop-frame
invariant-loop-frame l = l.rows ≡ flat_map cells_of (take l.frame-index l.frames)
