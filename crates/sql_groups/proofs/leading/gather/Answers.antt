use Rattle.std.proofs.Common.{rules, ◌∙◌, ◌++◌, List, ap, take}
use Rattle.std.proofs.lemmas.Fn.{always_returns_same}
use Rattle.std.proofs.lemmas.List.{map-append}
use Rattle.osq_value.specs.declared.value.Value.{Value}
use Rattle.sql_meaning.specs.declared.groups.Keyed.{Keyed}
use Rattle.sql_meaning.specs.Keyed.{member_of}
use Rattle.sql_meaning.specs.Order.{ordered_by}
use Rattle.sql_meaning.specs.Worths.{worths}
use Rattle.sql_meaning.proofs.OrderLaws.{is_less-order, ordered_by-is}
use Rattle.sql_groups.specs.Leading.{firsts_of, members_of}
use Rattle.sql_groups.proofs.Leaders.{sorted-members}
use Rattle.sql_groups.proofs.leading.gather.Goals as goal

pub returns : goal.returns
returns c =
    let key : Keyed → List Value = λ member. worths member.key in
    let ways = c.args.ways.now in
    let best = c.args.leaders.now.best.items in
    let more = c.args.leaders.now.more.items in
    let e = ordered_by-is key ways _ _
    (c.in_ok-sort_by.ensures.sorted _ (is_less-order key ways) (always_returns_same _ _ _ (λ a r g h. search rules)))
    (c.sort_by.ensures.stable _ (is_less-order key ways) (always_returns_same _ _ _ (λ a r g h. search rules))) in
    (ap members_of (c.truncate.ensures.items ∙ ap (take c.args.count) (e ∙ ap (λ (members : List Keyed). ordered_by key ways members) c.in_ok-append.ensures.items)) ∙ sorted-members ways c.args.count (best ++ more) ∙ ap (firsts_of ways c.args.count) (map-append member_of best more), c.in_ok-append.ensures.other_items)
