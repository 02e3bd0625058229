use Rattle.std.proofs.Common.{◌≡◌, ◌+◌, drop}
use Rattle.sql_query.specs.Tables.{FIRST_DERIVED}
use Rattle.sql_scope.specs.Scope.{derived_from}
use Rattle.sql_scope.proofs.tables.derived_named.Given as goal

abbrev pub invariant-loop-known : goal.invariant-loop-known
invariant-loop-known l = record {
  counted : l.number ≡ FIRST_DERIVED + l.known-index;
  here : derived_from l.name l.number (drop l.known-index l.derived) ≡ derived_from l.name FIRST_DERIVED l.derived;
}
