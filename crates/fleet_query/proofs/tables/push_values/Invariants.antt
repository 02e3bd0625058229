use Rattle.std.proofs.Common.{◌≡◌, ◌++◌, take}
use Rattle.fleet_query.proofs.tables.push_values.Given as goal

abbrev pub invariant-loop-value : goal.invariant-loop-value
invariant-loop-value l = l.row ≡ l.initial.row ++ take l.value-index l.values
