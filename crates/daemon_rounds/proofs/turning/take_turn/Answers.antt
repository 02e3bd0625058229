use Rattle.std.proofs.Common.{refl}
use Rattle.daemon_rounds.proofs.Counting.{still_counts}
use Rattle.daemon_rounds.proofs.turning.take_turn.Goals as goal

pub returns-else-takes_part-clause-counts : goal.returns-else-takes_part-clause-counts
returns-else-takes_part-clause-counts g c =
    still_counts g.S.Source.tells (g.S.Source.left c.args.source.now) c.args.feed.now c.args.feed.now refl refl refl
