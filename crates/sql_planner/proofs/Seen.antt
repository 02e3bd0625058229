-- What a chain and an IN are seen as.
use Rattle.std.proofs.Common.{◌≡◌, Bool, Box, Vec, Global, ap, sym, ◌∙◌}
use Rattle.sql_query.specs.Exprs.{ExprTree, OneExprStep, among, chain}
use Rattle.sql_query.specs.View.{aggregate_level, expr_level, expr_of, exprs_of, step_level, step_of, steps_of}
use Rattle.sql_query.specs.declared.tree.Expr.{Expr}
use Rattle.sql_query.specs.declared.tree.Expr.TheFolds.{fold-roll-Expr, fold-roll-ExprStep}
use Rattle.sql_query.specs.declared.tree.Expr.TheOpen.{Expr-F, ExprStep-F}
use Rattle.sql_query.specs.declared.tree.Expr.TheVariants.{Chain, rolls-Chain}
use Rattle.sql_query.specs.declared.tree.ExprStep.{ExprStep}
use Rattle.sql_query.specs.declared.tree.ExprStep.TheVariants.{In, rolls-In}

pub chain-seen : (first : Box Expr Global) (steps : Vec ExprStep Global) → expr_of (Chain first steps) ≡ chain (expr_of first.value) (steps_of steps.items)
chain-seen first steps =
    ap expr_of (sym (rolls-Chain first steps)) ∙ fold-roll-Expr ExprTree OneExprStep ExprTree expr_level step_level aggregate_level (Expr-F.Chain first steps)

pub in-seen : (is_negated : Bool) (items : Vec Expr Global) → step_of (In is_negated items) ≡ among is_negated (exprs_of items.items)
in-seen is_negated items =
    ap step_of (sym (rolls-In is_negated items)) ∙ fold-roll-ExprStep ExprTree OneExprStep ExprTree expr_level step_level aggregate_level (ExprStep-F.In is_negated items)
