use Rattle.std.proofs.Common.{◌≡◌, map, take}
use Rattle.keeper_sqlite.specs.Asking.{held_as}
use Rattle.keeper_sqlite.proofs.database.rows_of.Given as goal

abbrev pub invariant-loop-row : goal.invariant-loop-row
invariant-loop-row l = map (map held_as) l.rows ≡ take l.row-index l.shown
