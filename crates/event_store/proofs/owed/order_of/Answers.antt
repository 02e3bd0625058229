use Rattle.std.proofs.Common.{◌≡◌, ◌+◌, ◌≤◌, ◌∷◌, [], ◌++◌, ◌∙◌, ap, sym, subst, arith, take}
use Rattle.std.specs.Prelude.{nat_le}
use Rattle.std.proofs.lemmas.Bool.Decides.{nat_tests}
use Rattle.std.proofs.lemmas.List.{take_more}
use Rattle.entry_model.specs.declared.restored.Live.{Live}
use Rattle.entry_model.proofs.Lists.{and_true}
use Rattle.event_store.specs.Orders.{IsInOrder}
use Rattle.event_store.proofs.Orders.{order_more}
use Rattle.event_store.proofs.owed.order_of.Goals as goal

pub loop-event-preserved : goal.loop-event-preserved
loop-event-preserved c both =
    let l = c.loop-event in
    let x = c.event-item.result in
    let parts = and_true l.in_order (nat_le l.latest x.moment) both in
    let passes = parts.1 in
    let later : l.latest ≤ x.moment = grind (arith, nat_tests, passes) in
    let taken : take (l.event-index + 1) c.args.events.now ≡ take l.event-index c.args.events.now ++ x ∷ [] = take_more c.args.events.now l.event-index x c.loop-event-test.true ∙ ap (λ (e : Live). take l.event-index c.args.events.now ++ e ∷ []) (sym c.event-item.is) in
    subst (IsInOrder 0 x.moment) (sym taken) (order_more 0 l.latest (take l.event-index c.args.events.now) x later (l.invariant parts.0))
