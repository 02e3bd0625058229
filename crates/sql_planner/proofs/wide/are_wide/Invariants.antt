use Rattle.std.proofs.Common.{map, take}
use Rattle.sql_query.specs.Resolved.{source_of}
use Rattle.sql_planner.specs.Pushing.{AreWide}
use Rattle.sql_planner.proofs.wide.are_wide.Given as goal

abbrev pub invariant-loop-source : goal.invariant-loop-source
invariant-loop-source g l = AreWide (g.V.Tables.rows_of l.view) (map source_of (take l.source-index l.sources))
