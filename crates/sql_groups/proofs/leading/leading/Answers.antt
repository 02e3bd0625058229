use Rattle.std.proofs.Common.{◌∙◌, Bool, List, ap, map, arith}
use Rattle.std.proofs.lemmas.List.{take_all}
use Rattle.std.proofs.lemmas.Result.{IfOk-weaker}
use Rattle.sql_query.specs.Resolved.{order_of}
use Rattle.sql_query.specs.View.{expr_of}
use Rattle.sql_meaning.specs.declared.groups.Keyed.{Keyed}
use Rattle.sql_groups.specs.Leading.{all_of, firsts_of, kept_pairs}
use Rattle.sql_groups.proofs.Leaders.{leading-rows}
use Rattle.sql_groups.proofs.leading.leading.Goals as goal

pub returns : goal.returns
returns c =
    let terms = map order_of c.args.terms.now in
    let condition = map expr_of c.args.condition.now.parts in
    let count = c.args.count in
    let rows = c.args.rows.now in
    let ways = c.as_slice-2.ensures.value ∙ c.in_ok-ways.ensures in
    let whole = take_all c.loop-row.row-index rows (omega (arith, c.loop-row-test.false)) in
    let told =
    c.in_ok-gather.ensures.0
    ∙ ap (λ (flags : List Bool). firsts_of flags count (all_of c.loop-row.leaders)) c.as_slice-2.ensures.value
    ∙ c.loop-row.invariant.1
    ∙ (λ i. firsts_of (c.in_ok-ways.ensures i) count (kept_pairs terms condition (whole i))) in
    IfOk-weaker c.rows_of.result _ _
    (λ made is. is ∙ ap (map (λ (member : Keyed). member.row)) c.as_slice-3.ensures.value ∙ leading-rows terms condition count c.gather.new.leaders.best.items rows told)
    c.rows_of.ensures
