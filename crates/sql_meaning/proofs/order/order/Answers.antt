use Rattle.std.proofs.Common.{rules, ap, ◌∙◌, drop, List}
use Rattle.std.proofs.lemmas.Fn.{always_returns_same}
use Rattle.osq_value.specs.declared.value.Value.{Value}
use Rattle.sql_meaning.specs.Order.{ordered_by}
use Rattle.sql_meaning.specs.Worths.{worths}
use Rattle.sql_meaning.specs.declared.worth.Worth.{Worth}
use Rattle.sql_meaning.proofs.OrderLaws.{is_less-order, ordered_by-is}
use Rattle.sql_meaning.proofs.order.order.Goals as goal

pub returns : goal.returns
returns c =
    let key : List Worth → List Value = λ row. worths (drop c.args.width row) in
    let flags = c.args.descending.now in
    let e = ordered_by-is key flags _ _
    (c.in_ok-sort_by.ensures.sorted _ (is_less-order key flags) (always_returns_same _ _ _ (λ a r g h. search rules)))
    (c.sort_by.ensures.stable _ (is_less-order key flags) (always_returns_same _ _ _ (λ a r g h. search rules))) in
    c.from_vec.ensures ∙ e ∙ ap (λ (rows : List (List Worth)). ordered_by key flags rows) c.into_vec-sorted.ensures
