use Rattle.std.proofs.Common.{◌∙◌, ap, arith}
use Rattle.std.proofs.lemmas.List.{take_all}
use Rattle.std.proofs.lemmas.Result.{IfOk-weaker}
use Rattle.sql_query.specs.Resolved.{query_of}
use Rattle.sql_meaning.specs.Steps.{behind_from}
use Rattle.sql_planner.proofs.single.all_rows.Goals as goal

pub returns : goal.returns
returns g c =
    let rows = g.V.Tables.rows_of c.args.view.now c.args.table.0 in
    IfOk-weaker c.rows_of_first.result _ _
    (λ made is. is ∙ ap (behind_from (query_of c.args.query.now)) (take_all c.count.result rows (let n = c.count.ensures in omega (arith, n))))
    c.rows_of_first.ensures
