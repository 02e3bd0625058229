use Rattle.std.proofs.Common.{◌≡◌, drop, map}
use Rattle.sql_scope.specs.Naming.{alias_from}
use Rattle.sql_scope.specs.Shown.{shown_of}
use Rattle.sql_scope.proofs.naming.alias_at.Given as goal

abbrev pub invariant-loop-column : goal.invariant-loop-column
invariant-loop-column l = record {
  counted : l.number ≡ l.column-index;
  here : alias_from l.name 0 (map shown_of l.shown) ≡ alias_from l.name l.number (map shown_of (drop l.column-index l.shown));
}
