use Rattle.std.proofs.Common.{◌≡◌, ◌++◌, take}
use Rattle.pack_rules.specs.Offers.{entries_in_pack}
use Rattle.pack_rules.proofs.offers.push_entries.Given as goal

abbrev pub invariant-loop-entry : goal.invariant-loop-entry
invariant-loop-entry l = record {
  offers : l.offers ≡ l.fn.offers ++ entries_in_pack l.host l.pack (take l.entry-index l.entry-items);
  source : l.entry-items ≡ l.entries;
}
