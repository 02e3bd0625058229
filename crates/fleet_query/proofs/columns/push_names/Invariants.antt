use Rattle.std.proofs.Common.{◌≡◌, ◌++◌, map, take}
use Rattle.fleet_query.specs.Tables.{any}
use Rattle.fleet_query.proofs.columns.push_names.Given as goal

abbrev pub invariant-loop-name : goal.invariant-loop-name
invariant-loop-name l = l.columns ≡ l.initial.columns ++ map any (take l.name-index l.names)
