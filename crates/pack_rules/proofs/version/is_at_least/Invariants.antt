use Rattle.std.proofs.Common.{◌≡◌}
use Rattle.pack_rules.specs.Versions.{is_at_least, numbers_of}
use Rattle.pack_rules.specs.Walks.{numbers_left, bytes_left}
use Rattle.pack_rules.proofs.version.is_at_least.Given as goal

abbrev pub invariant-loop-left : goal.invariant-loop-left
invariant-loop-left l = is_at_least (numbers_left l.version) (numbers_left l.left) ≡ is_at_least (numbers_of l.fn.version) (numbers_of l.fn.least)

abbrev pub decreases-loop-left : goal.decreases-loop-left
decreases-loop-left l = bytes_left l.left
