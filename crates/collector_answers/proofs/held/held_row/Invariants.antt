use Rattle.std.proofs.Common.{take}
use Rattle.std.specs.List.{AllByRecursion}
use Rattle.batch_frames.specs.Texts.{IsHeldValue}
use Rattle.collector_answers.proofs.held.held_row.Given as goal

abbrev pub invariant-loop-value : goal.invariant-loop-value
invariant-loop-value l = AllByRecursion IsHeldValue (take l.value-index l.row)
