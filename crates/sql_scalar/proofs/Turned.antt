-- The order of two values the other way round.
use Rattle.std.proofs.Common.{◌≡◌, sym}
use Rattle.std.specs.Ordering.{ordering_reverse}
use Rattle.osq_value.specs.declared.value.Value.{Value}
use Rattle.osq_value.specs.Order.{order_of}
use Rattle.osq_value.proofs.OrderLaws.{order_of-total}

pub order_turned : (left right : Value) → ordering_reverse (order_of right left) ≡ order_of left right
order_turned left right = let total = order_of-total in sym (total.antisymm left right)
