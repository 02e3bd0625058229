use Rattle.std.proofs.Common.{◌≡◌}
use Rattle.std.specs.List.{list_any}
use Rattle.pack_rules.specs.Parts.{parts_of}
use Rattle.pack_rules.specs.Platforms.{part_holds}
use Rattle.pack_rules.specs.Walks.{parts_left, bytes_left}
use Rattle.pack_rules.proofs.platform.platform_holds.Given as goal

abbrev pub invariant-loop-left : goal.invariant-loop-left
invariant-loop-left l = list_any (part_holds l.fn.platform) (parts_left 44 l.left) ≡ list_any (part_holds l.fn.platform) (parts_of 44 l.fn.list)

abbrev pub decreases-loop-left : goal.decreases-loop-left
decreases-loop-left l = bytes_left l.left
