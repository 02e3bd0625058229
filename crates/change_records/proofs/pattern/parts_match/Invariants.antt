use Rattle.std.proofs.Common.{length}
use Rattle.change_records.specs.Patterns.{MatchesParts, parts_of}
use Rattle.change_records.proofs.pattern.parts_match.Given as goal

abbrev pub invariant-loop-at : goal.invariant-loop-at
invariant-loop-at l = record {
  from : MatchesParts (parts_of l.pattern) (parts_of l.path) → MatchesParts (parts_of l.fn.pattern) (parts_of l.fn.path);
  to : MatchesParts (parts_of l.fn.pattern) (parts_of l.fn.path) → MatchesParts (parts_of l.pattern) (parts_of l.path);
}

abbrev pub decreases-loop-at : goal.decreases-loop-at
decreases-loop-at l = length l.pattern
