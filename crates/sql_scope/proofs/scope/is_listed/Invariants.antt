use Rattle.std.proofs.Common.{◌≡◌, drop}
use Rattle.sql_scope.specs.Scope.{is_listed}
use Rattle.sql_scope.proofs.scope.is_listed.Given as goal

abbrev pub invariant-loop-listed : goal.invariant-loop-listed
invariant-loop-listed l = is_listed l.name l.names ≡ is_listed l.name (drop l.listed-index l.names)
