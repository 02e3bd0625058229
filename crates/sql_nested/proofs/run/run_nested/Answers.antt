use Rattle.std.proofs.Common.{◌∙◌, List, [], ap, map}
use Rattle.std.proofs.lemmas.Result.{IfOk-weaker}
use Rattle.sql_nested.specs.declared.query.NestedText.{NestedText}
use Rattle.sql_nested.specs.Extending.{extended, next_id, with_view_rows}
use Rattle.sql_nested.specs.Meanings.{text_rows}
use Rattle.sql_nested.specs.Trees.{text_of}
use Rattle.sql_nested.proofs.Beside.{Rows, views-mean}
use Rattle.sql_nested.proofs.run.run_nested.Goals as goal

pub returns : goal.returns
returns g c =
    let view = g.V.Tables.rows_of c.args.view.now in
    let text = text_of c.args.query.now.text in
    IfOk-weaker c.text_rows.result _ _
    (λ rows is.
    is ∙ ap (λ (tables : List Rows). text_rows (extended view tables) (next_id tables) text) c.in_ok-made.ensures
    ∙ ap (λ (views : List NestedText). text_rows (extended view (with_view_rows view [] (map text_of views))) (next_id (with_view_rows view [] (map text_of views))) text) c.as_slice.ensures
    ∙ views-mean view (map text_of c.args.query.now.views) text)
    c.text_rows.ensures.rows
