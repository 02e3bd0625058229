use Rattle.std.proofs.Common.{◌≡◌, take}
use Rattle.result_batches.specs.Labels.{labelled_rows}
use Rattle.result_batches.specs.Lines.{added_lines}
use Rattle.result_batches.proofs.lines.added.Given as goal

abbrev pub invariant-loop-row : goal.invariant-loop-row
invariant-loop-row l = l.lines ≡ added_lines l.head l.decoration (labelled_rows l.labels (take l.row-index l.rows))
