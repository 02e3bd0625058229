use Rattle.std.proofs.Common.{◌≡◌, ◌∙◌, IfSome, List, Option, ap, map, subst}
use Rattle.std.proofs.lemmas.Result.{IfOk-weaker}
use Rattle.sql_query.specs.Resolved.{query_of}
use Rattle.sql_query.specs.View.{expr_of}
use Rattle.sql_meaning.specs.declared.joined.Joined.{Joined}
use Rattle.sql_meaning.specs.Lent.{values_in}
use Rattle.sql_meaning.specs.Steps.{asked_by, behind_from}
use Rattle.sql_groups.specs.Different.{different}
use Rattle.sql_groups.proofs.Cutting.{different-lent}
use Rattle.sql_groups.proofs.steps.rows_by_column.Goals as goal

pub returns-in-Some : goal.returns-in-Some
returns-in-Some c =
    let query = asked_by (map expr_of c.args.condition.now.parts) (query_of c.args.query.now) in
    let rows = c.args.rows.now in
    let made = subst (λ (o : Option (List Joined)). IfSome o (λ kept. kept ≡ different c.args.place (map expr_of c.args.condition.now.parts) rows)) c.in-Some.is c.in_ok-different.ensures in
    IfOk-weaker c.rows_where-in-Some.result _ _
    (λ result is.
    is ∙ ap (λ (kept : List Joined). behind_from query (map values_in kept)) (c.as_slice.ensures ∙ made)
    ∙ different-lent query c.args.place c.requires.ungrouped c.requires.distinct c.requires.only rows)
    c.rows_where-in-Some.ensures
