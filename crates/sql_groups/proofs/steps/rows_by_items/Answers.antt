use Rattle.std.proofs.Common.{◌≡◌, ◌∙◌, Bor, IfSome, List, Option, ap, map, subst}
use Rattle.std.proofs.lemmas.Result.{IfOk-weaker}
use Rattle.sql_query.specs.declared.query.QueryItem.{QueryItem}
use Rattle.sql_query.specs.declared.tree.Expr.{Expr}
use Rattle.sql_query.specs.Exprs.{ExprTree}
use Rattle.sql_query.specs.Resolved.{ResultTree, query_of, result_of}
use Rattle.sql_query.specs.View.{expr_of}
use Rattle.sql_meaning.specs.declared.joined.Joined.{Joined}
use Rattle.sql_meaning.specs.Lent.{values_in}
use Rattle.sql_meaning.specs.Steps.{asked_by, behind_from}
use Rattle.sql_groups.specs.Different.{different_by}
use Rattle.sql_groups.proofs.Cutting.{different-by-lent}
use Rattle.sql_groups.proofs.steps.rows_by_items.Goals as goal

pub returns : goal.returns
returns c =
    let condition = map expr_of c.args.condition.now.parts in
    let query = asked_by condition (query_of c.args.query.now) in
    let rows = c.args.rows.now in
    let exprs =
    ap (map (λ (expr : Bor Expr). expr_of expr.now)) c.as_slice-2.ensures
    ∙ c.in_ok-exprs.ensures
    ∙ ap (λ (items : List QueryItem). map (λ (item : ResultTree). item.expr) (map result_of items)) c.as_slice.ensures in
    let made = subst (λ (o : Option (List Joined)). IfSome o (λ kept. kept ≡ different_by (map (λ (expr : Bor Expr). expr_of expr.now) c.as_slice-2.result.now) condition rows)) c.in-Some.is c.in_ok-different_by.ensures in
    IfOk-weaker c.rows_where-in-Some.result _ _
    (λ result is.
    is ∙ ap (λ (kept : List Joined). behind_from query (map values_in kept)) (c.as_slice-in-Some.ensures ∙ made ∙ ap (λ (some : List ExprTree). different_by some condition rows) exprs)
    ∙ different-by-lent query c.requires.ungrouped c.requires.distinct rows)
    c.rows_where-in-Some.ensures
