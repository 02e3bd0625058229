use Rattle.std.proofs.Common.{◌≡◌, ◌++◌, take}
use Rattle.pack_rules.specs.Offers.{own_queries}
use Rattle.pack_rules.proofs.offers.push_schedule.Given as goal

abbrev pub invariant-loop-entry : goal.invariant-loop-entry
invariant-loop-entry l = record {
  offers : l.offers ≡ l.fn.offers ++ own_queries l.host (take l.entry-index l.entry-items);
  source : l.entry-items ≡ l.entries;
}
