use Rattle.std.proofs.Common.{◌≡◌, ◌++◌, drop, map, length}
use Rattle.sql_tree.specs.Select.{ref_of}
use Rattle.sql_scope.specs.Scope.{scope_from, AreNarrow}
use Rattle.sql_scope.proofs.tables.scope_of.Given as goal

abbrev pub invariant-loop-table : goal.invariant-loop-table
invariant-loop-table l = record {
  many : length l.scope ≡ l.table-index;
  counted : l.source ≡ l.table-index;
  narrow : AreNarrow l.scope;
  here : l.scope ++ scope_from l.derived l.text l.source l.at (map ref_of (drop l.table-index l.tables)) ≡ scope_from l.derived l.text 0 0 (map ref_of l.tables);
}
