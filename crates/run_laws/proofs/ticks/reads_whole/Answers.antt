use Rattle.run_laws.proofs.ticks.reads_whole.Goals as goal
use Rattle.run_laws.proofs.Ended as law

pub returns : goal.returns
returns g c = law.reads_whole g.K.Keeper.tells g.O.Sink.tells g.S.Source.tells g.L.Link.tells g.C.Clock.reads
