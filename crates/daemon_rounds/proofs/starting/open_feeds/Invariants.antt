use Rattle.std.proofs.Common.{take}
use Rattle.daemon_rounds.specs.Starting.{AreFeedsOf}
use Rattle.daemon_rounds.proofs.starting.open_feeds.Given as goal

abbrev pub invariant-loop-source : goal.invariant-loop-source
invariant-loop-source l = AreFeedsOf l.taken l.paths (take l.source-index l.sources) l.feeds.items
