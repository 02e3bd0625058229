use Rattle.std.proofs.Common.{◌≡◌, map, take}
use Rattle.query_answers.specs.Discovery.{is_found}
use Rattle.query_answers.proofs.discovery.found_packs.Given as goal

abbrev pub invariant-loop-pack : goal.invariant-loop-pack
invariant-loop-pack g l = record {
  found : l.found.items ≡ map (is_found (g.V.Tables.rows_of l.view)) (take l.pack-index l.pack-items);
  source : l.pack-items ≡ l.config.packs;
}
