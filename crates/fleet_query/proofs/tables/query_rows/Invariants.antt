use Rattle.std.proofs.Common.{◌≡◌, take}
use Rattle.fleet_query.specs.Tables.{query_rows}
use Rattle.fleet_query.proofs.tables.query_rows.Given as goal

abbrev pub invariant-loop-frame : goal.invariant-loop-frame
invariant-loop-frame l = l.rows ≡ query_rows (take l.frame-index l.frames) l.last
