use Rattle.std.proofs.Common.{◌≡◌, map, take}
use Rattle.fleet_query.specs.Tables.{column}
use Rattle.fleet_query.proofs.columns.columns.Given as goal

abbrev pub invariant-loop-name : goal.invariant-loop-name
invariant-loop-name l = l.columns ≡ map (λ d. column d.0.now d.1) (take l.name-index l.described)
