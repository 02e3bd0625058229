use Rattle.std.proofs.Common.{◌≡◌, map, take}
use Rattle.sql_query.specs.Resolved.{order_of}
use Rattle.sql_groups.specs.Leading.{directions}
use Rattle.sql_groups.proofs.leading.directions.Given as goal

abbrev pub invariant-loop-term : goal.invariant-loop-term
invariant-loop-term l = l.made.items ≡ directions (map order_of (take l.term-index l.terms))
