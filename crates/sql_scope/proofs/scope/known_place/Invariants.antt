use Rattle.std.proofs.Common.{◌≡◌, drop}
use Rattle.sql_scope.specs.Scope.{known_place, AreNarrow}
use Rattle.sql_scope.proofs.scope.known_place.Given as goal

abbrev pub invariant-loop-seen : goal.invariant-loop-seen
invariant-loop-seen l = record {
  narrow : AreNarrow (drop l.seen-index l.scope);
  here : known_place l.table l.name l.scope ≡ known_place l.table l.name (drop l.seen-index l.scope);
}
