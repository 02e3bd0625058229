use Rattle.std.proofs.Common.{rules, ◌∙◌, List, ap}
use Rattle.std.proofs.lemmas.Fn.{always_returns_same}
use Rattle.osq_value.specs.declared.value.Value.{Value}
use Rattle.sql_meaning.specs.Order.{ordered_by}
use Rattle.sql_meaning.proofs.OrderLaws.{is_less-order, ordered_by-is}
use Rattle.sql_groups.specs.declared.sorted.KeyedRow.{KeyedRow}
use Rattle.sql_groups.specs.Sorted.{key_values}
use Rattle.sql_groups.proofs.sorted.sorted.Goals as goal

pub returns : goal.returns
returns c =
    let key : KeyedRow → List Value = λ row. key_values row.keys in
    let ways = c.args.ways.now in
    let e = ordered_by-is key ways _ _
    (c.in_ok-sort_by.ensures.sorted _ (is_less-order key ways) (always_returns_same _ _ _ (λ a r g h. search rules)))
    (c.sort_by.ensures.stable _ (is_less-order key ways) (always_returns_same _ _ _ (λ a r g h. search rules))) in
    c.from_vec.ensures ∙ e ∙ ap (ordered_by key ways) c.into_vec-rows.ensures
