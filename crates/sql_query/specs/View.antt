-- The tree that an `Expr` stands for.
use Rattle.std.specs.Prelude.{List, [], ◌∷◌, Bool, Option, Some, None, map}
use Rattle.sql_tree.specs.declared.functions.Fold.{Fold}
use Rattle.sql_query.specs.Exprs.{ExprTree, OneExprStep, ExprSteps, no_steps, then, Exprs, no_exprs, and_expr}
use Rattle.sql_query.specs.Exprs as expr
use Rattle.sql_query.specs.declared.tree.Expr.{Expr, fold-Expr}
use Rattle.sql_query.specs.declared.tree.ExprStep.{ExprStep, fold-ExprStep}
use Rattle.sql_query.specs.declared.tree.Aggregate.{Aggregate, fold-Aggregate}
use Rattle.sql_query.specs.declared.tree.Expr.TheOpen.{Expr-F, ExprStep-F, Aggregate-F}

abbrev pub steps_after : ExprSteps → List OneExprStep → ExprSteps
steps_after before [] = before
steps_after before (s ∷ ss) = steps_after (then before s) ss

abbrev pub exprs_after : Exprs → List ExprTree → Exprs
exprs_after before [] = before
exprs_after before (e ∷ es) = exprs_after (and_expr before e) es

-- one level, with each child already seen
abbrev pub expr_level : Expr-F ExprTree OneExprStep ExprTree → ExprTree
expr_level (Expr-F.Literal value) = expr.literal value
expr_level (Expr-F.Column source column at affinity) = expr.column source column at affinity
expr_level (Expr-F.Chain first steps) = expr.chain first.value (steps_after no_steps steps.items)
expr_level (Expr-F.Negation inner) = expr.negation inner.value
expr_level (Expr-F.Minus inner) = expr.minus inner.value
expr_level (Expr-F.Plus inner) = expr.plus inner.value
expr_level (Expr-F.Cast inner affinity) = expr.cast inner.value affinity
expr_level (Expr-F.Call function arguments) = expr.call function (exprs_after no_exprs arguments.items)
expr_level (Expr-F.Folded aggregate) = aggregate.value

abbrev pub step_level : ExprStep-F ExprTree OneExprStep ExprTree → OneExprStep
step_level (ExprStep-F.Binary op right) = expr.binary op right
step_level (ExprStep-F.In is_negated items) = expr.among is_negated (exprs_after no_exprs items.items)
step_level (ExprStep-F.Between is_negated low high) = expr.between is_negated low high

abbrev pub aggregate_by : Fold → Bool → Option ExprTree → ExprTree
aggregate_by fold is_distinct None = expr.count_all fold is_distinct
aggregate_by fold is_distinct (Some argument) = expr.folded fold is_distinct argument

-- an aggregate is seen as the expression that it is
abbrev pub aggregate_level : Aggregate-F ExprTree OneExprStep ExprTree → ExprTree
aggregate_level a = aggregate_by a.fold a.is_distinct a.argument

abbrev pub expr_of : Expr → ExprTree
expr_of = fold-Expr ExprTree OneExprStep ExprTree expr_level step_level aggregate_level

abbrev pub step_of : ExprStep → OneExprStep
step_of = fold-ExprStep ExprTree OneExprStep ExprTree expr_level step_level aggregate_level

abbrev pub aggregate_of : Aggregate → ExprTree
aggregate_of = fold-Aggregate ExprTree OneExprStep ExprTree expr_level step_level aggregate_level

abbrev pub steps_of : List ExprStep → ExprSteps
steps_of steps = steps_after no_steps (map step_of steps)

abbrev pub exprs_of : List Expr → Exprs
exprs_of exprs = exprs_after no_exprs (map expr_of exprs)
