use Rattle.std.proofs.Common.{◌≡◌, take}
use Rattle.replay_rounds.specs.Noting.{skipped_lines}
use Rattle.replay_rounds.proofs.noting.skipped_lines.Given as goal

abbrev pub invariant-loop-feed : goal.invariant-loop-feed
invariant-loop-feed l = l.lines ≡ skipped_lines (take l.feed-index l.feeds)
