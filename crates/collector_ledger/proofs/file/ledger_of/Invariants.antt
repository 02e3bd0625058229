use Rattle.std.proofs.Common.{length}
use Rattle.collector_core.specs.Ledgers.{digests_of}
use Rattle.collector_ledger.proofs.Taken.{HasTaken}
use Rattle.collector_ledger.proofs.file.ledger_of.Given as goal

abbrev pub invariant-loop-at : goal.invariant-loop-at
invariant-loop-at l = HasTaken l.file l.rest (digests_of l.ledger)

abbrev pub decreases-loop-at : goal.decreases-loop-at
decreases-loop-at l = length l.rest
