use Rattle.std.proofs.Common.{◌≡◌, ◌+◌, ◌++◌, length}
use Rattle.record_lines.specs.Lines.{cuts_of, lines_of, rest_of}
use Rattle.record_lines.proofs.later.cut_all.Given as goal

abbrev pub invariant-loop-at : goal.invariant-loop-at
invariant-loop-at l = record {
  cuts : l.cuts.items ++ cuts_of l.limit l.begun (lines_of l.rest) ≡ cuts_of l.limit l.start (lines_of l.bytes);
  rest : rest_of l.rest ≡ rest_of l.bytes;
  begun : l.begun + length l.rest ≡ l.start + length l.bytes;
}

abbrev pub decreases-loop-at : goal.decreases-loop-at
decreases-loop-at l = length l.rest
