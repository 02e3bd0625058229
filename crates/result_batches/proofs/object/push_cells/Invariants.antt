use Rattle.std.proofs.Common.{◌≡◌, ◌++◌, drop}
use Rattle.result_batches.specs.Labels.{cells}
use Rattle.result_batches.proofs.object.push_cells.Given as goal

abbrev pub invariant-loop-at : goal.invariant-loop-at
invariant-loop-at l = l.line ++ cells (drop l.at l.labels) (drop l.at l.row) ≡ l.fn.line ++ cells l.labels l.row
