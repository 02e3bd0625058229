use Rattle.std.proofs.Common.{◌≡◌, map, take}
use Rattle.keeper_sqlite.specs.Asking.{held_as}
use Rattle.keeper_sqlite.proofs.database.row_of.Given as goal

abbrev pub invariant-loop-at : goal.invariant-loop-at
invariant-loop-at l = map held_as l.row ≡ take l.at l.shown
