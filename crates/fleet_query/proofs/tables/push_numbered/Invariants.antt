use Rattle.std.proofs.Common.{◌≡◌, ◌++◌, map, take}
use Rattle.fleet_query.specs.Tables.{numbered}
use Rattle.fleet_query.proofs.tables.push_numbered.Given as goal

abbrev pub invariant-loop-row : goal.invariant-loop-row
invariant-loop-row l = l.rows ≡ l.initial.rows ++ map (numbered l.frame) (take l.row-index l.held)
