use Rattle.forward_rounds.proofs.Marking.{AreAcknowledged}
use Rattle.forward_rounds.proofs.acknowledging.acknowledge_each.Given as goal

abbrev pub invariant-loop-mark : goal.invariant-loop-mark
invariant-loop-mark l = AreAcknowledged l.initial.state l.marks l.mark-index l.state
