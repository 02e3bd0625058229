use Rattle.std.proofs.Common.{map, take}
use Rattle.sql_query.specs.Resolved.{order_of}
use Rattle.sql_query.specs.View.{expr_of}
use Rattle.sql_groups.specs.Leading.{Leads, kept_pairs}
use Rattle.sql_groups.proofs.leading.leading.Given as goal

abbrev pub invariant-loop-row : goal.invariant-loop-row
invariant-loop-row l = Leads l.ways.items l.count (kept_pairs (map order_of l.terms) (map expr_of l.condition.parts) (take l.row-index l.rows)) l.leaders
