use Rattle.std.proofs.Common.{◌≡◌, length, map}
use Rattle.sql_query.specs.Resolved.{source_of}
use Rattle.sql_planner.specs.Explained.{place_text}
use Rattle.sql_planner.proofs.explaining.push_place.Given as goal

abbrev pub invariant-loop-rest : goal.invariant-loop-rest
invariant-loop-rest l = record {
  text : l.text ≡ l.fn.text;
  place : place_text (map source_of l.rest) l.at ≡ place_text (map source_of l.fn.sources) l.fn.place;
}

abbrev pub decreases-loop-rest : goal.decreases-loop-rest
decreases-loop-rest l = length l.rest
