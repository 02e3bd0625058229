use Rattle.std.proofs.Common.{◌≡◌, ◌++◌, length, map}
use Rattle.sql_query.specs.Resolved.{source_of}
use Rattle.sql_planner.specs.Explained.{lines}
use Rattle.sql_planner.proofs.explaining.push_lines.Given as goal

abbrev pub invariant-loop-rest : goal.invariant-loop-rest
invariant-loop-rest l = l.text ++ lines (map source_of l.all) (map source_of l.rest) l.behind ≡ l.fn.text ++ lines (map source_of l.all) (map source_of l.fn.sources) l.fn.scans

abbrev pub decreases-loop-rest : goal.decreases-loop-rest
decreases-loop-rest l = length l.rest
