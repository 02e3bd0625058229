use Rattle.std.proofs.Common.{◌≡◌, ◌+◌, take}
use Rattle.record_lines.specs.Held.{texts_size}
use Rattle.record_lines.proofs.cutter.with_texts.Given as goal

abbrev pub invariant-loop-cut : goal.invariant-loop-cut
invariant-loop-cut l = l.size ≡ l.begun + texts_size (take l.cut-index l.cuts)
