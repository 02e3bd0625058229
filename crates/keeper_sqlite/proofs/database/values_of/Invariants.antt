use Rattle.std.proofs.Common.{◌≡◌, map, take}
use Rattle.sqlite.specs.Values.{bound}
use Rattle.keeper_sqlite.specs.Asking.{bound_to}
use Rattle.keeper_sqlite.proofs.database.values_of.Given as goal

abbrev pub invariant-loop-parameter : goal.invariant-loop-parameter
invariant-loop-parameter l = bound l.values.items ≡ map bound_to (take l.parameter-index l.parameters)
