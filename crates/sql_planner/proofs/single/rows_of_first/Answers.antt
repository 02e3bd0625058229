use Rattle.std.proofs.Common.{◌∙◌, List, [], ap, map, take}
use Rattle.std.specs.List.{list_all}
use Rattle.std.proofs.lemmas.List.Elements.{filter_agree}
use Rattle.std.proofs.lemmas.Result.{IfOk-weaker}
use Rattle.osq_value.specs.declared.value.Value.{Value}
use Rattle.sql_query.specs.Resolved.{query_of}
use Rattle.sql_query.specs.View.{expr_of}
use Rattle.sql_query.specs.declared.tree.Expr.{Expr}
use Rattle.sql_meaning.specs.declared.joined.Joined.{Joined}
use Rattle.sql_meaning.specs.Expressions.{alone, holds}
use Rattle.sql_meaning.specs.Lent.{values_in}
use Rattle.sql_meaning.specs.Steps.{asked_by, behind_from}
use Rattle.sql_planner.specs.RowTests.{passes_some}
use Rattle.sql_planner.proofs.EarlyEnd.{asked-none}
use Rattle.sql_planner.proofs.single.rows_of_first.Goals as goal

pub returns : goal.returns
returns g c =
    let query = query_of c.args.query.now in
    let rows = take c.args.read (g.V.Tables.rows_of c.args.view.now c.args.table.0) in
    IfOk-weaker c.rows_behind_where.result _ _
    (λ made is. is
    ∙ ap (λ (parts : List Expr). behind_from (asked_by (map expr_of parts) query) (map values_in c.as_slice.result.now)) (c.of.ensures ∙ c.new.ensures.items)
    ∙ ap (λ (kept : List Joined). behind_from (asked_by [] query) (map values_in kept)) c.as_slice.ensures
    ∙ ap (behind_from (asked_by [] query))
    (c.in_ok-kept.ensures ∙ filter_agree (λ (row : List Value). list_all (passes_some row) c.args.tests.now) (λ (row : List Value). holds (alone row) query.filter) c.requires rows)
    ∙ asked-none query rows)
    c.rows_behind_where.ensures
