use Rattle.std.proofs.Common.{◌≡◌, take, map}
use Rattle.sql_query.specs.Resolved.{source_of}
use Rattle.sql_query.proofs.copy.copy_sources.Given as goal

abbrev pub invariant-loop-source : goal.invariant-loop-source
invariant-loop-source l = map source_of l.copies ≡ map source_of (take l.source-index l.sources)
