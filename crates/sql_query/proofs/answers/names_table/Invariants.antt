use Rattle.std.proofs.Common.{◌≡◌, drop, map}
use Rattle.sql_query.specs.Answers.{is_among}
use Rattle.sql_query.specs.Resolved.{source_of}
use Rattle.sql_query.proofs.answers.names_table.Given as goal

abbrev pub invariant-loop-source : goal.invariant-loop-source
invariant-loop-source l = is_among l.table.0 (map source_of l.query.sources) ≡ is_among l.table.0 (map source_of (drop l.source-index l.source-items))
