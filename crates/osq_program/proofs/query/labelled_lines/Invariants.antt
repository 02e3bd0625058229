use Rattle.std.proofs.Common.{◌≡◌, take}
use Rattle.osq_program.specs.Querying.{labelled_lines}
use Rattle.osq_program.proofs.query.labelled_lines.Given as goal

abbrev pub invariant-loop-row : goal.invariant-loop-row
invariant-loop-row l = record {
  lines : l.lines ≡ labelled_lines l.labels (take l.row-index l.row-items);
  source : l.row-items ≡ l.rows;
}
