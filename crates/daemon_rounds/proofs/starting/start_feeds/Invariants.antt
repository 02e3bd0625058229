use Rattle.daemon_rounds.proofs.Started.{AreStarted}
use Rattle.daemon_rounds.proofs.starting.start_feeds.Given as goal

abbrev pub invariant-loop-at : goal.invariant-loop-at
invariant-loop-at g l = AreStarted g.S.Source.tells g.S.Source.left g.S.Source.faults l.initial.feeds l.feeds l.initial.sources l.sources l.at
