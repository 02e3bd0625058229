use Rattle.std.proofs.Common.{◌≡◌, map}
use Rattle.std.specs.Prelude.{option_map}
use Rattle.std.specs.List.{range_with_len}
use Rattle.sql_query.specs.Resolved.{query_of}
use Rattle.fleet_query.specs.Wanted.{wanted_rows}
use Rattle.fleet_query.proofs.filling.wanted_rows.Given as goal

abbrev pub invariant-loop-place : goal.invariant-loop-place
invariant-loop-place l = l.tables ≡ map (wanted_rows (option_map (λ query. query_of query.now) l.query) l.frames) (range_with_len 0 l.place)
