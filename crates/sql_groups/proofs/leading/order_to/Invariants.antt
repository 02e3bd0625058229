use Rattle.std.proofs.Common.{◌≡◌, length, map}
use Rattle.sql_query.specs.Resolved.{order_of}
use Rattle.sql_meaning.specs.Lent.{values_in}
use Rattle.sql_meaning.specs.Order.{order_by}
use Rattle.sql_meaning.specs.Worths.{worths}
use Rattle.sql_groups.specs.Leading.{directions, sort_keys}
use Rattle.sql_groups.proofs.leading.order_to.Given as goal

abbrev pub invariant-loop-rest : goal.invariant-loop-rest
invariant-loop-rest l =
    order_by (directions (map order_of l.rest)) (sort_keys (map order_of l.rest) (values_in l.row)) (worths l.others)
    ≡ order_by (directions (map order_of l.fn.terms)) (sort_keys (map order_of l.fn.terms) (values_in l.row)) (worths l.fn.keys)

abbrev pub decreases-loop-rest : goal.decreases-loop-rest
decreases-loop-rest l = length l.rest
