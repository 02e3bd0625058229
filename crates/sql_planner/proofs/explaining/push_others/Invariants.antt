use Rattle.std.proofs.Common.{◌≡◌, ◌++◌, length}
use Rattle.std.specs.Prelude.{flat_map}
use Rattle.sql_query.specs.Resolved.{source_of}
use Rattle.sql_planner.specs.Explained.{behind_and}
use Rattle.sql_planner.proofs.explaining.push_others.Given as goal

abbrev pub invariant-loop-rest : goal.invariant-loop-rest
invariant-loop-rest l = l.text ++ flat_map (behind_and (source_of l.source)) l.rest ≡ l.fn.text ++ flat_map (behind_and (source_of l.source)) l.fn.constraints

abbrev pub decreases-loop-rest : goal.decreases-loop-rest
decreases-loop-rest l = length l.rest
