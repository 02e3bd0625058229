-- A list of parts of a resolved tree has one more at its end.
use Rattle.std.proofs.Common.{◌≡◌, ◌++◌, List, [], ◌∷◌, map, refl}
use Rattle.sql_query.specs.declared.tree.Expr.{Expr}
use Rattle.sql_query.specs.declared.tree.ExprStep.{ExprStep}
use Rattle.sql_query.specs.Exprs.{ExprSteps, then, Exprs, and_expr}
use Rattle.sql_query.specs.View.{expr_of, step_of, steps_after, exprs_after}

pub steps_after-push : (before : ExprSteps) (steps : List ExprStep) (step : ExprStep) → steps_after before (map step_of (steps ++ step ∷ [])) ≡ then (steps_after before (map step_of steps)) (step_of step)
steps_after-push before [] step = refl
steps_after-push before (s ∷ ss) step = steps_after-push (then before (step_of s)) ss step

pub exprs_after-push : (before : Exprs) (exprs : List Expr) (e : Expr) → exprs_after before (map expr_of (exprs ++ e ∷ [])) ≡ and_expr (exprs_after before (map expr_of exprs)) (expr_of e)
exprs_after-push before [] e = refl
exprs_after-push before (f ∷ es) e = exprs_after-push (and_expr before (expr_of f)) es e
