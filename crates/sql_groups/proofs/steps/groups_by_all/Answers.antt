use Rattle.std.proofs.Common.{Bor, List, ap, map, subst, ◌∙◌}
use Rattle.std.proofs.lemmas.Option.{IfSome_then}
use Rattle.std.proofs.lemmas.Result.{IfOk-weaker}
use Rattle.sql_query.specs.declared.tree.Expr.{Expr}
use Rattle.sql_query.specs.Exprs.{ExprTree}
use Rattle.sql_query.specs.View.{expr_of}
use Rattle.sql_groups.specs.Folding.{lists_by}
use Rattle.sql_groups.specs.Grouping.{IsFolded}
use Rattle.sql_groups.specs.Keys.{row_values}
use Rattle.sql_groups.proofs.steps.groups_by_all.Goals as goal

pub returns : goal.returns
returns c =
    let condition = map expr_of c.args.condition.now.parts in
    let exprs = ap (map (λ (expr : Bor Expr). expr_of expr.now)) c.as_slice.ensures ∙ c.in_ok-exprs.ensures in
    IfOk-weaker c.groups_by_keys.result _ _
    (λ found told. IfSome_then found told
    (λ groups folded. subst (λ (some : List ExprTree). IsFolded c.args.items.now (lists_by (row_values some) condition c.args.rows.now) groups.items) exprs folded))
    c.groups_by_keys.ensures
