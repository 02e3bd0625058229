use Rattle.daemon_rounds.specs.Rounding.{AreGoing}
use Rattle.query_rounds.specs.Running.{TurnsOften, place_of}
use Rattle.query_rounds.proofs.rounds.take_rounds.Given as goal

abbrev pub invariant-loop : goal.invariant-loop
invariant-loop g l = record {
  turns : TurnsOften g.S.Source.tells g.S.Source.left g.S.Source.faults l.most l.counter (place_of l.initial.feeds l.initial.sources l.initial.state) (place_of l.feeds l.sources l.state);
  going : AreGoing l.state.counts.taken l.feeds;
}
