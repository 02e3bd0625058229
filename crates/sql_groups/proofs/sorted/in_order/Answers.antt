use Rattle.std.proofs.Common.{◌∙◌, Bool, List, ap, map}
use Rattle.std.proofs.lemmas.Result.{IfOk-weaker}
use Rattle.sql_query.specs.declared.query.Order.{Order}
use Rattle.sql_query.specs.Resolved.{order_of}
use Rattle.sql_meaning.specs.Cut.{cut_by}
use Rattle.sql_meaning.specs.Order.{ordered_by}
use Rattle.sql_groups.specs.declared.sorted.KeyedRow.{KeyedRow}
use Rattle.sql_groups.specs.Leading.{directions}
use Rattle.sql_groups.proofs.Ranked.{keys_in, row_in}
use Rattle.sql_groups.proofs.sorted.in_order.Goals as goal

pub returns : goal.returns
returns c =
    let query = c.args.query.now in
    IfOk-weaker c.results.result _ _
    (λ rows is. is
    ∙ ap (map row_in) c.cut.ensures
    ∙ ap (λ (sorted : List KeyedRow). map row_in (cut_by query.limit query.skip sorted))
    (c.in_ok-sorted.ensures
    ∙ ap (λ (ways : List Bool). ordered_by keys_in ways c.args.made)
    (c.as_slice-2.ensures.value ∙ c.in_ok-ways.ensures ∙ ap (λ (terms : List Order). directions (map order_of terms)) c.as_slice.ensures)))
    c.results.ensures
