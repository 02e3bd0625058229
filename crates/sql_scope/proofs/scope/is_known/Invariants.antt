use Rattle.std.proofs.Common.{◌≡◌, drop}
use Rattle.sql_scope.specs.Scope.{is_known}
use Rattle.sql_scope.proofs.scope.is_known.Given as goal

abbrev pub invariant-loop-seen : goal.invariant-loop-seen
invariant-loop-seen l = is_known l.table l.scope ≡ is_known l.table (drop l.seen-index l.scope)
