use Rattle.std.proofs.Common.{◌≡◌, ◌++◌, take}
use Rattle.result_batches.specs.Json.{each_behind_comma}
use Rattle.result_batches.specs.Labels.{labelled_rows}
use Rattle.result_batches.proofs.object.push_objects.Given as goal

abbrev pub invariant-loop-row : goal.invariant-loop-row
invariant-loop-row l = l.line ≡ l.initial.line ++ each_behind_comma (labelled_rows l.labels (take l.row-index l.rest))
