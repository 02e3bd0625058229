use Rattle.std.proofs.Common.{◌≡◌, ◌∙◌, length, ap, sym, subst}
use Rattle.event_store.specs.Orders.{IsInOrder}
use Rattle.event_store.proofs.Restoring.{holds_restored}
use Rattle.event_store.proofs.Floors.{kept_restored}
use Rattle.event_store.proofs.image.Image.restore.Goals as goal

pub invariant_of-result : goal.invariant_of-result
invariant_of-result c =
    let r = c.args.restored.now in
    let floors : length r.floors ≡ 3 = ap length (sym c.three_floors-floors.ensures.same) ∙ c.three_floors-floors.ensures.count in
    rw (c.three_floors-floors.ensures.same, c.in_ok-events.ensures, c.in_ok-copy_sets.ensures, c.in_ok-tables.ensures, c.as_slice.ensures, c.as_slice-3.ensures) (kept_restored c.order_of-in_order.result.0 c.order_of-in_order.result.1 r c.requires floors (λ so. subst (IsInOrder 0 c.order_of-in_order.result.1) c.as_slice-2.ensures (c.order_of-in_order.ensures so)))

pub returns : goal.returns
returns c =
    let r = c.args.restored.now in
    rw (c.three_floors-floors.ensures.same, c.in_ok-events.ensures, c.in_ok-copy_sets.ensures, c.in_ok-tables.ensures, c.as_slice.ensures, c.as_slice-3.ensures) (holds_restored r c.requires)
