use Rattle.std.proofs.Common.{◌≡◌, ◌++◌, true, drop}
use Rattle.result_batches.specs.Labels.{labels_from}
use Rattle.result_batches.proofs.labels.labels_of.Given as goal

abbrev pub invariant-loop-at : goal.invariant-loop-at
invariant-loop-at l = l.labels ++ labels_from l.is_first (drop l.at l.names) ≡ labels_from true l.names
