use Rattle.std.proofs.Common.{◌≡◌, ◌++◌, drop}
use Rattle.pack_rules.specs.Offers.{all_pack_queries}
use Rattle.pack_rules.proofs.offers.push_packs.Given as goal

abbrev pub invariant-loop-at : goal.invariant-loop-at
invariant-loop-at l = l.offers ++ all_pack_queries l.host (drop l.at l.packs) (drop l.at l.found) ≡ l.fn.offers ++ all_pack_queries l.host l.packs l.found
