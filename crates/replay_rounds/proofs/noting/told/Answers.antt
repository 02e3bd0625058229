use Rattle.std.proofs.Common.{ap}
use Rattle.replay_rounds.proofs.Noted.{skipped_by}
use Rattle.replay_rounds.proofs.noting.told.Goals as goal

pub returns-clause-skipped : goal.returns-clause-skipped
returns-clause-skipped g c tells =
    skipped_by c.args.feeds.now _ _ _ _ c.write_skipped-written.result (c.write_skipped-written.ensures.skipped tells) (λ is. ap g.O.Sink.written (c.write_skipped-written.ensures.unmade is)) c.write_skipped-written.ensures.cause
