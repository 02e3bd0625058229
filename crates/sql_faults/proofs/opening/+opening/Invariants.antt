use Rattle.std.proofs.Common.{◌*◌}
use Rattle.sql_tokens.specs.Levels.{rank}
use Rattle.sql_faults.proofs.opening.+opening.Given as goal

abbrev pub decreases-open_chain : goal.decreases-open_chain
decreases-open_chain l = 2 * rank l.level

abbrev pub decreases-open_negated : goal.decreases-open_negated
decreases-open_negated l = 9
