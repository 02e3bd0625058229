use Rattle.std.proofs.Common.{◌≡◌, drop}
use Rattle.sql_scope.specs.Scope.{place_from}
use Rattle.sql_scope.proofs.scope.place_in.Given as goal

abbrev pub invariant-loop-column : goal.invariant-loop-column
invariant-loop-column l = record {
  counted : l.number ≡ l.column-index;
  here : place_from l.seen l.name 0 l.seen.columns ≡ place_from l.seen l.name l.number (drop l.column-index l.column-items);
}
