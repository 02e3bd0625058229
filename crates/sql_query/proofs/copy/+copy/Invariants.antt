use Rattle.std.proofs.Common.{◌≡◌, take, map}
use Rattle.sql_query.specs.View.{expr_of, step_of}
use Rattle.sql_query.proofs.copy.+copy.Given as goal

abbrev pub invariant-copy_exprs-loop-expr : goal.invariant-copy_exprs-loop-expr
invariant-copy_exprs-loop-expr l = map expr_of l.copies.items ≡ map expr_of (take l.expr-index l.exprs)

abbrev pub invariant-copy_steps-loop-step : goal.invariant-copy_steps-loop-step
invariant-copy_steps-loop-step l = map step_of l.copies.items ≡ map step_of (take l.step-index l.steps)
