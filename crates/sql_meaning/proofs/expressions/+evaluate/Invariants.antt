use Rattle.std.proofs.Common.{◌≡◌, map, take}
use Rattle.sql_query.specs.View.{expr_of, steps_of, exprs_of}
use Rattle.sql_meaning.specs.Expressions.{affinity_after, alone, value_of, value_after, values_of}
use Rattle.sql_meaning.specs.Lent.{values_in}
use Rattle.sql_meaning.specs.Over.{environment_of}
use Rattle.sql_meaning.specs.Worths.{worth_of}
use Rattle.sql_scalar.specs.Comparison.{in_of}
use Rattle.sql_meaning.proofs.expressions.+evaluate.Given as goal

abbrev pub invariant-among-loop-item : goal.invariant-among-loop-item
invariant-among-loop-item l = l.found ≡ in_of l.affinity l.left (values_of (environment_of l.over) (exprs_of (take l.item-index l.items)))

abbrev pub invariant-chain-loop-step : goal.invariant-chain-loop-step
invariant-chain-loop-step l =
    (worth_of l.left ≡ value_after (environment_of l.over) l.fn.affinity (worth_of l.fn.first) (steps_of (take l.step-index l.steps)))
    × (l.affinity ≡ affinity_after l.fn.affinity (steps_of (take l.step-index l.steps)))

abbrev pub invariant-column_values-loop-row : goal.invariant-column_values-loop-row
invariant-column_values-loop-row l = l.values ≡ map (λ row. value_of (alone row) (expr_of l.expr)) (map values_in (take l.row-index l.rows))

abbrev pub invariant-values-loop-expr : goal.invariant-values-loop-expr
invariant-values-loop-expr l = l.row ≡ values_of (environment_of l.over) (exprs_of (take l.expr-index l.exprs))
