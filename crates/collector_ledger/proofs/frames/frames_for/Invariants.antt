use Rattle.std.proofs.Common.{length}
use Rattle.collector_ledger.proofs.Recorded.{HasFound}
use Rattle.collector_ledger.proofs.frames.frames_for.Given as goal

abbrev pub invariant-loop-at : goal.invariant-loop-at
invariant-loop-at l = HasFound l.file l.host l.rest l.frames

abbrev pub decreases-loop-at : goal.decreases-loop-at
decreases-loop-at l = length l.rest
