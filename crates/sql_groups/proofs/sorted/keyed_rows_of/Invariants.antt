use Rattle.std.proofs.Common.{◌≡◌, filter, map, take}
use Rattle.sql_query.specs.Resolved.{order_of, result_of}
use Rattle.sql_query.specs.View.{expr_of}
use Rattle.sql_groups.specs.Kept.{is_kept}
use Rattle.sql_groups.specs.Sorted.{keyed_row, pair_of}
use Rattle.sql_groups.proofs.sorted.keyed_rows_of.Given as goal

abbrev pub invariant-loop-row : goal.invariant-loop-row
invariant-loop-row l = map pair_of l.made ≡ map (keyed_row (map order_of l.terms) (map result_of l.items)) (filter (is_kept (map expr_of l.condition.parts)) (take l.row-index l.rows))
