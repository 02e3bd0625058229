use Rattle.std.proofs.Common.{◌∙◌, ap, filter, map, sym}
use Rattle.std.proofs.lemmas.Result.{IfOk-weaker}
use Rattle.sql_query.specs.Resolved.{order_of, query_of, result_of}
use Rattle.sql_query.specs.View.{expr_of}
use Rattle.sql_meaning.specs.Cut.{cut_by}
use Rattle.sql_meaning.specs.Steps.{asked_by}
use Rattle.sql_meaning.proofs.Mapped.{cut_mapped}
use Rattle.sql_groups.specs.Kept.{is_kept}
use Rattle.sql_groups.specs.Leading.{directions}
use Rattle.sql_groups.specs.Sorted.{keyed_row}
use Rattle.sql_meaning.specs.Order.{ordered_by}
use Rattle.sql_groups.proofs.Cutting.{sorted-lent}
use Rattle.sql_groups.proofs.Ranked.{keys_in, ranked-columns, row_in}
use Rattle.sql_groups.proofs.sorted.sorted_rows.Goals as goal

pub returns : goal.returns
returns c =
    let query = asked_by (map expr_of c.args.condition.now.parts) (query_of c.args.query.now) in
    let ways = directions query.terms in
    let kept = filter (is_kept query.filter) c.args.rows.now in
    IfOk-weaker c.in_order.result _ _
    (λ rows is. is
    ∙ sym (cut_mapped row_in query.limit query.skip (ordered_by keys_in ways c.in_ok-made.made))
    ∙ ap (cut_by query.limit query.skip) (ranked-columns query.terms query.items ways c.in_ok-made.made kept (c.in_ok-made.ensures ∙ (λ i. map (keyed_row (map order_of (c.as_slice.ensures i)) (map result_of (c.as_slice-2.ensures i))) kept)))
    ∙ sorted-lent query c.requires.ungrouped c.requires.all c.args.rows.now)
    c.in_order.ensures
