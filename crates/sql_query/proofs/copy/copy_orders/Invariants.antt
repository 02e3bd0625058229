use Rattle.std.proofs.Common.{◌≡◌, take, map}
use Rattle.sql_query.specs.Resolved.{order_of}
use Rattle.sql_query.proofs.copy.copy_orders.Given as goal

abbrev pub invariant-loop-order : goal.invariant-loop-order
invariant-loop-order l = map order_of l.copies ≡ map order_of (take l.order-index l.orders)
