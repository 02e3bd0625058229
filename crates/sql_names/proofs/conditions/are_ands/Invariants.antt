use Rattle.std.proofs.Common.{◌≡◌, take}
use Rattle.sql_tree.specs.View.{steps_of}
use Rattle.sql_names.specs.Results.{are_ands}
use Rattle.sql_names.proofs.conditions.are_ands.Given as goal

abbrev pub invariant-loop-step : goal.invariant-loop-step
invariant-loop-step l = l.are ≡ are_ands (steps_of (take l.step-index l.steps))
