use Rattle.std.proofs.Common.{length}
use Rattle.daemon_rounds.proofs.Appended.{AreAppended}
use Rattle.daemon_rounds.proofs.appending.append_each.Given as goal

abbrev pub invariant-loop-reading : goal.invariant-loop-reading
invariant-loop-reading g l = AreAppended l.initial.state l.source l.initial.rest.items l.rest.items l.state

abbrev pub decreases-loop-reading : goal.decreases-loop-reading
decreases-loop-reading g l = length l.rest.items
