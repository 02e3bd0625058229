use Rattle.std.proofs.Common.{◌≡◌, drop, map}
use Rattle.sql_tree.specs.Select.{ref_of}
use Rattle.sql_names.specs.Kinds.{usings_missing}
use Rattle.sql_names.specs.Least.{lesser}
use Rattle.sql_scope.specs.Shown.{names_of}
use Rattle.sql_names.proofs.faults.usings_missing.Given as goal

abbrev pub invariant-loop-source : goal.invariant-loop-source
invariant-loop-source l = record {
  counted : l.number ≡ l.source-index;
  here : lesser l.place (usings_missing (names_of l.names) l.number (map ref_of (drop l.source-index l.sources))) ≡ usings_missing (names_of l.names) 0 (map ref_of l.sources);
}
