use Rattle.std.proofs.Common.{◌≡◌, ◌≤◌, ◌++◌, length, map, take}
use Rattle.std.specs.Prelude.{All}
use Rattle.fleet_query.specs.Tables.{query_table}
use Rattle.fleet_query.proofs.columns.push_queries.Given as goal

abbrev pub invariant-loop-last : goal.invariant-loop-last
invariant-loop-last l = record {
  derived : l.derived ≡ l.initial.derived ++ map query_table (map (λ last. last.now) (take l.last-index l.lasts));
  narrow : All (λ shown. length shown.columns ≤ 32767) l.derived;
}
