use Rattle.std.proofs.Common.{◌≡◌, length, drop}
use Rattle.event_store.specs.Recorded.{with_sets}
use Rattle.event_store.proofs.recorded.copy_sets.Given as goal

abbrev pub invariant-loop-set : goal.invariant-loop-set
invariant-loop-set l = record {
  tables : with_sets l.tables (drop l.set-index l.sets) ≡ with_sets l.initial.tables l.sets;
  count : length l.tables ≡ 9;
}
