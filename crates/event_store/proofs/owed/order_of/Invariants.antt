use Rattle.std.proofs.Common.{◌≡◌, true, take}
use Rattle.event_store.specs.Orders.{IsInOrder}
use Rattle.event_store.proofs.owed.order_of.Given as goal

abbrev pub invariant-loop-event : goal.invariant-loop-event
invariant-loop-event l = l.in_order ≡ true → IsInOrder 0 l.latest (take l.event-index l.events)
