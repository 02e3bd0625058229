use Rattle.std.proofs.Common.{◌≡◌, false, take}
use Rattle.std.specs.List.{list_any}
use Rattle.batch_frames.specs.Escapes.{is_special}
use Rattle.batch_frames.proofs.strings.plain_front.Given as goal

abbrev pub invariant-loop-at : goal.invariant-loop-at
invariant-loop-at l = list_any is_special (take l.at l.bytes) ≡ false
