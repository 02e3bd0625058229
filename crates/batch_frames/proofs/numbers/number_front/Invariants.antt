use Rattle.std.proofs.Common.{◌≡◌, false, take}
use Rattle.std.specs.List.{list_any}
use Rattle.batch_frames.specs.Ends.{is_end}
use Rattle.batch_frames.proofs.numbers.number_front.Given as goal

abbrev pub invariant-loop-at : goal.invariant-loop-at
invariant-loop-at l = list_any is_end (take l.at l.bytes) ≡ false
