use Rattle.std.proofs.Common.{◌≡◌, map, take}
use Rattle.sql_query.specs.Resolved.{order_of}
use Rattle.sql_meaning.specs.Lent.{values_in}
use Rattle.sql_meaning.specs.Worths.{worths}
use Rattle.sql_groups.specs.Leading.{sort_keys}
use Rattle.sql_groups.proofs.leading.keys_of.Given as goal

abbrev pub invariant-loop-term : goal.invariant-loop-term
invariant-loop-term l = worths l.keys ≡ sort_keys (map order_of (take l.term-index l.terms)) (values_in l.row)
