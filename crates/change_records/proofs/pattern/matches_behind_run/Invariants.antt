use Rattle.std.proofs.Common.{length}
use Rattle.change_records.specs.Patterns.{MatchesBehindRun}
use Rattle.change_records.proofs.pattern.matches_behind_run.Given as goal

abbrev pub invariant-loop-at : goal.invariant-loop-at
invariant-loop-at l = record {
  from : MatchesBehindRun l.pattern l.part → MatchesBehindRun l.fn.pattern l.fn.part;
  to : MatchesBehindRun l.fn.pattern l.fn.part → MatchesBehindRun l.pattern l.part;
}

abbrev pub decreases-loop-at : goal.decreases-loop-at
decreases-loop-at l = length l.pattern
