use Rattle.std.proofs.Common.{◌∙◌, ◌-◌, ap, sym, arith}
use Rattle.std.specs.Prelude.{nat_le, ◌||◌}
use Rattle.std.proofs.lemmas.List.{at_drop_all}
use Rattle.entry_model.specs.declared.restored.Live.{Live}
use Rattle.event_store.specs.Segments.{live_in}
use Rattle.event_store.proofs.Expiring.{owed_from, owed_is}
use Rattle.event_store.proofs.Orders.{ends_walk, is_over}
use Rattle.event_store.proofs.owed.floor_owed.Goals as goal

pub returns : goal.returns
returns c =
    let a = c.args in
    let l = a.limits in
    let items = live_in a.segments.now a.table in
    let past = c.loop-at-test.false in
    let count = c.len-count.ensures in
    sym (at_drop_all (owed_from l.expiry l.max l.moment l.reached c.loop-at.owed) items c.loop-at.at (omega (arith, past, count)))
    ∙ c.loop-at.invariant.owed
    ∙ owed_is l.expiry l.max l.moment l.reached items c.requires.rising

pub returns-then-in_order : goal.returns-then-in_order
returns-then-in_order c =
    let a = c.args in
    let l = a.limits in
    let items = live_in a.segments.now a.table in
    let order = c.requires.order c.if-in_order.true in
    let within = c.loop-at-test.true in
    let count = c.len-count.ensures in
    ends_walk l.expiry l.max l.moment l.reached c.loop-at.at c.loop-at.later order.0 c.loop-at.owed items c.event-event.result.now (omega (arith, within, count)) c.loop-at.invariant.later c.requires.rising order.1
    (ap (λ (e : Live). is_over l.expiry l.moment l.reached e || nat_le l.max (c.loop-at.later - 1)) (sym c.event-event.ensures) ∙ sym c.must_go.ensures ∙ c.if-must_go.false)
    c.loop-at.invariant.owed
