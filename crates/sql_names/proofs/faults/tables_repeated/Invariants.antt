use Rattle.std.proofs.Common.{◌≡◌, drop, map}
use Rattle.sql_tree.specs.Select.{ref_of}
use Rattle.sql_names.specs.Kinds.{tables_repeated}
use Rattle.sql_names.specs.Least.{lesser}
use Rattle.sql_names.proofs.faults.tables_repeated.Given as goal

abbrev pub invariant-loop-source : goal.invariant-loop-source
invariant-loop-source l = record {
  counted : l.number ≡ l.source-index;
  here : lesser l.place (tables_repeated l.scope l.number (map ref_of (drop l.source-index l.sources))) ≡ tables_repeated l.scope 0 (map ref_of l.sources);
}
