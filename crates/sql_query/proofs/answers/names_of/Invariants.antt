use Rattle.std.proofs.Common.{◌≡◌, ◌++◌, drop, map}
use Rattle.sql_query.specs.Answers.{names_in_result}
use Rattle.sql_query.specs.Resolved.{result_of}
use Rattle.sql_query.proofs.answers.names_of.Given as goal

abbrev pub invariant-loop-item : goal.invariant-loop-item
invariant-loop-item l = l.names ++ names_in_result (map result_of (drop l.item-index l.item-items)) ≡ names_in_result (map result_of l.query.items)
