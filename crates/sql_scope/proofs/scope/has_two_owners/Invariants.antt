use Rattle.std.proofs.Common.{◌≡◌, ◌+◌, drop}
use Rattle.std.specs.Prelude.{if◌then◌else◌}
use Rattle.sql_scope.specs.Scope.{owners, AreNarrow}
use Rattle.sql_scope.proofs.scope.has_two_owners.Given as goal

abbrev pub invariant-loop-seen : goal.invariant-loop-seen
invariant-loop-seen l = record {
  narrow : AreNarrow (drop l.seen-index l.scope);
  here : owners l.name l.scope ≡ (if l.has_one then 1 else 0) + owners l.name (drop l.seen-index l.scope);
}
