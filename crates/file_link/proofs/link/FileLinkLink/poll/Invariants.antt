use Rattle.std.proofs.Common.{◌≡◌}
use Rattle.file_link.proofs.link.FileLinkLink.poll.Given as goal

abbrev pub invariant-loop-self : goal.invariant-loop-self
invariant-loop-self g l = (l.self.frames ≡ l.fn.self.frames) × (l.self.faults ≡ l.fn.self.faults)

abbrev pub decreases-loop-self : goal.decreases-loop-self
decreases-loop-self g l = l.self.answers.left
