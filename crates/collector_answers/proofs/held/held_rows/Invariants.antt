use Rattle.std.proofs.Common.{take}
use Rattle.std.specs.List.{AllByRecursion}
use Rattle.batch_frames.specs.Texts.{IsHeldValue}
use Rattle.collector_answers.proofs.held.held_rows.Given as goal

abbrev pub invariant-loop-row : goal.invariant-loop-row
invariant-loop-row l = AllByRecursion (λ row. AllByRecursion IsHeldValue row) (take l.row-index l.rows)
