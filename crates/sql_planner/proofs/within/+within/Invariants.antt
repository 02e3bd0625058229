use Rattle.std.proofs.Common.{take}
use Rattle.sql_query.specs.View.{exprs_of, steps_of}
use Rattle.sql_planner.specs.Within.{AreStepsWithin, AreWithin}
use Rattle.sql_planner.proofs.within.+within.Given as goal

abbrev pub invariant-are_steps_within-loop-at : goal.invariant-are_steps_within-loop-at
invariant-are_steps_within-loop-at l = AreStepsWithin l.width (steps_of (take l.at l.steps))

abbrev pub invariant-are_within-loop-at : goal.invariant-are_within-loop-at
invariant-are_within-loop-at l = AreWithin l.width (exprs_of (take l.at l.exprs))
