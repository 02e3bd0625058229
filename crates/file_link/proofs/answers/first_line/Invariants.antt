use Rattle.std.proofs.Common.{length}
use Rattle.file_link.proofs.answers.first_line.Given as goal

abbrev pub decreases-loop-cut : goal.decreases-loop-cut
decreases-loop-cut l = length l.lines.ready
