use Rattle.std.proofs.Common.{arith}
use Rattle.daemon_rounds.proofs.Opened.{filled_moment, opens, opens_found}
use Rattle.daemon_rounds.proofs.opening.begin_session.Goals as goal

pub configure-requires-clause-later : goal.configure-requires-clause-later
configure-requires-clause-later g c =
    let kept = filled_moment g.S.Source.tells g.S.Source.left g.S.Source.faults c.args.setup.now.records c.args.restored c.args.feeds.now c.take_round.new.feeds c.args.sources.now c.take_round.new.sources c.in-Ok.state c.take_round.new.state c.in-Ok.ensures c.in-Ok-take_round.ensures.round in
    let later = c.requires.later in
    omega (arith, kept, later)

pub returns-in-Ok-configure-clause-opens : goal.returns-in-Ok-configure-clause-opens
returns-in-Ok-configure-clause-opens g c =
    opens g.S.Source.tells g.S.Source.left g.S.Source.faults c.args.setup.now.records c.args.restored c.args.feeds.now c.take_round.new.feeds c.args.sources.now c.take_round.new.sources c.in-Ok.state c.take_round.new.state c.in-Ok.ensures c.in-Ok-take_round.ensures.round
    c.args.configured.now.config c.args.configured.now.documents c.args.setup.now.host c.args.moment c.configure.new.state c.in-Ok-configure.ensures.configured

pub returns-in-Ok-configure-clause-found : goal.returns-in-Ok-configure-clause-found
returns-in-Ok-configure-clause-found g c =
    opens_found g.S.Source.tells g.S.Source.left g.S.Source.faults c.args.setup.now.records c.args.restored c.args.feeds.now c.take_round.new.feeds c.args.sources.now c.take_round.new.sources c.in-Ok.state c.take_round.new.state c.in-Ok.ensures c.in-Ok-take_round.ensures.round
    c.args.configured.now.config c.args.configured.now.documents c.args.setup.now.host c.args.moment c.configure.new.state c.in-Ok-configure.ensures.configured _ c.is_state.ensures c.in-Ok-discover.ensures
