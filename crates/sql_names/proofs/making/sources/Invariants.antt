use Rattle.std.proofs.Common.{◌≡◌, ◌++◌, drop, map}
use Rattle.sql_tree.specs.Select.{ref_of}
use Rattle.sql_query.specs.Resolved.{source_of}
use Rattle.sql_names.specs.Making.{source_trees}
use Rattle.sql_scope.specs.Shown.{names_of}
use Rattle.sql_names.proofs.making.sources.Given as goal

abbrev pub invariant-loop-table : goal.invariant-loop-table
invariant-loop-table l = record {
  counted : l.number ≡ l.table-index;
  here : map source_of l.made ++ source_trees (names_of l.names) l.number (map ref_of (drop l.table-index l.tables)) ≡ source_trees (names_of l.names) 0 (map ref_of l.tables);
}
