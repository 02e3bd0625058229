use Rattle.std.proofs.Common.{◌≡◌, take, flat_map}
use Rattle.kept_tables.specs.Loads.{rows_from}
use Rattle.kept_tables.proofs.tables.rows_of.Given as goal

abbrev pub invariant-loop-part : goal.invariant-loop-part
invariant-loop-part l = l.rows ≡ flat_map (rows_from l.table) (take l.part-index l.parts)
