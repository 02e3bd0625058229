use Rattle.std.proofs.Common.{◌≡◌, length, take}
use Rattle.entry_summary.proofs.FloorSteps.{AreFloors}
use Rattle.entry_summary.proofs.floors.last_floors.Given as goal

abbrev pub invariant-loop-entry : goal.invariant-loop-entry
invariant-loop-entry l = record {
  known : AreFloors l.floors (take l.entry-index l.entries);
  long : length l.floors ≡ 256;
}
