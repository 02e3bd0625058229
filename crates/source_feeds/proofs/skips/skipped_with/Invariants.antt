use Rattle.std.proofs.Common.{◌≡◌, ◌+◌, take}
use Rattle.source_feeds.specs.Feeding.{counted}
use Rattle.source_feeds.specs.Joining.{skipped_told}
use Rattle.source_feeds.proofs.skips.skipped_with.Given as goal

abbrev pub invariant-loop-reading : goal.invariant-loop-reading
invariant-loop-reading l = l.skipped ≡ counted (l.before + skipped_told (take l.reading-index l.readings))
