use Rattle.daemon_rounds.proofs.Rounded.{AreUnderWay}
use Rattle.daemon_rounds.proofs.rounding.take_round.Given as goal

abbrev pub invariant-loop-at : goal.invariant-loop-at
invariant-loop-at g l = AreUnderWay g.S.Source.tells g.S.Source.left g.S.Source.faults l.which l.most l.initial.feeds l.feeds l.initial.sources l.sources l.at l.initial.state l.state
