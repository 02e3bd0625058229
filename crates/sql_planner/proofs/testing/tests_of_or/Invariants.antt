use Rattle.std.proofs.Common.{◌≡◌, List, take}
use Rattle.osq_value.specs.declared.value.Value.{Value}
use Rattle.sql_query.specs.Exprs.{chain}
use Rattle.sql_query.specs.View.{expr_of, steps_of}
use Rattle.sql_meaning.specs.Expressions.{alone, is_true, value_of}
use Rattle.sql_planner.specs.RowTests.{passes_some}
use Rattle.sql_planner.proofs.testing.tests_of_or.Given as goal

abbrev pub invariant-loop-step : goal.invariant-loop-step
invariant-loop-step l = (row : List Value) → passes_some row l.tests ≡ is_true (value_of (alone row) (chain (expr_of l.first) (steps_of (take l.step-index l.steps))))
