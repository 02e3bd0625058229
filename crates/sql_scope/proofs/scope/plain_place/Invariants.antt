use Rattle.std.proofs.Common.{◌≡◌, drop}
use Rattle.sql_scope.specs.Scope.{plain_place, AreNarrow}
use Rattle.sql_scope.proofs.scope.plain_place.Given as goal

abbrev pub invariant-loop-seen : goal.invariant-loop-seen
invariant-loop-seen l = record {
  narrow : AreNarrow (drop l.seen-index l.scope);
  here : plain_place l.name l.scope ≡ plain_place l.name (drop l.seen-index l.scope);
}
