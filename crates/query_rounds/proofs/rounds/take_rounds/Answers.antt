use Rattle.std.proofs.Common.{◌≡◌, Err, ap, ◌∙◌}
use Rattle.daemon_rounds.specs.declared.error.TakeError.TheVariants.{SourceFault}
use Rattle.daemon_rounds.proofs.Laters.{fails_since}
use Rattle.query_rounds.specs.Running.{place_of}
use Rattle.query_rounds.proofs.Turned.{turned_later}
use Rattle.query_rounds.proofs.rounds.take_rounds.Goals as goal

pub returns-in-Err-clause-fault : goal.returns-in-Err-clause-fault
returns-in-Err-clause-fault g c place is =
    let error : c.in-Err.error ≡ SourceFault place = (cc) in
    let later = turned_later g.S.Source.tells g.S.Source.left g.S.Source.faults c.args.most c.loop.counter (place_of c.args.feeds.now c.args.sources.now c.args.state.now) (place_of c.loop.feeds c.loop.sources c.loop.state) c.loop.invariant.turns in
    fails_since g.S.Source.faults place c.args.sources.now c.loop.sources c.take_round.new.sources later (c.take_round.ensures.fault place (c.in-Err.is ∙ ap Err error))
