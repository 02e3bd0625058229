use Rattle.std.proofs.Common.{◌∙◌, List, ap, map}
use Rattle.std.proofs.lemmas.Result.{IfOk-weaker}
use Rattle.sql_query.specs.declared.query.Order.{Order}
use Rattle.sql_query.specs.Resolved.{order_of, query_of}
use Rattle.sql_query.specs.View.{expr_of}
use Rattle.sql_meaning.specs.declared.joined.Joined.{Joined}
use Rattle.sql_meaning.specs.Lent.{values_in}
use Rattle.sql_meaning.specs.Steps.{asked_by, behind_from}
use Rattle.sql_groups.specs.Leading.{leading}
use Rattle.sql_groups.proofs.Cutting.{leading-lent}
use Rattle.sql_groups.proofs.steps.leading_rows.Goals as goal

pub returns : goal.returns
returns c =
    let query = asked_by (map expr_of c.args.condition.now.parts) (query_of c.args.query.now) in
    let rows = c.args.rows.now in
    let condition = map expr_of c.args.condition.now.parts in
    let cut = c.requires.cut in
    IfOk-weaker c.rows_where.result _ _
    (λ result is.
    is
    ∙ ap (λ (kept : List Joined). behind_from query (map values_in kept))
    (c.as_slice-2.ensures ∙ c.in_ok-first.ensures ∙ ap (λ (terms : List Order). leading (map order_of terms) condition c.args.count rows) c.as_slice.ensures)
    ∙ leading-lent query {kept = cut.0} c.requires.ungrouped c.requires.all cut.1 cut.2 rows)
    c.rows_where.ensures
