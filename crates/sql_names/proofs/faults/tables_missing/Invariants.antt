use Rattle.std.proofs.Common.{◌≡◌, drop, map}
use Rattle.sql_tree.specs.Select.{ref_of}
use Rattle.sql_names.specs.Kinds.{table_missing}
use Rattle.sql_names.specs.Least.{lesser, least}
use Rattle.sql_names.proofs.faults.tables_missing.Given as goal

abbrev pub invariant-loop-source : goal.invariant-loop-source
invariant-loop-source l = lesser l.place (least (map (table_missing l.derived l.text) (map ref_of (drop l.source-index l.sources)))) ≡ least (map (table_missing l.derived l.text) (map ref_of l.sources))
