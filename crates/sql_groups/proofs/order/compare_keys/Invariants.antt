use Rattle.std.proofs.Common.{◌≡◌, length}
use Rattle.sql_meaning.specs.Order.{order_by}
use Rattle.sql_meaning.specs.Worths.{worths}
use Rattle.sql_groups.proofs.order.compare_keys.Given as goal

abbrev pub invariant-loop-rest : goal.invariant-loop-rest
invariant-loop-rest l = order_by l.rest (worths l.left) (worths l.right) ≡ order_by l.fn.ways (worths l.fn.lefts) (worths l.fn.rights)

abbrev pub decreases-loop-rest : goal.decreases-loop-rest
decreases-loop-rest l = length l.rest
