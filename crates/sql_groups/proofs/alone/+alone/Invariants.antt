use Rattle.std.proofs.Common.{take}
use Rattle.sql_query.specs.View.{exprs_of, steps_of}
use Rattle.sql_groups.specs.Alone.{AreStepsAlone, AreAlone}
use Rattle.sql_groups.proofs.alone.+alone.Given as goal

abbrev pub invariant-are_steps_alone-loop-at : goal.invariant-are_steps_alone-loop-at
invariant-are_steps_alone-loop-at l = AreStepsAlone (steps_of (take l.at l.steps))

abbrev pub invariant-are_alone-loop-at : goal.invariant-are_alone-loop-at
invariant-are_alone-loop-at l = AreAlone (exprs_of (take l.at l.exprs))
