use Rattle.std.proofs.Common.{◌≡◌, ℕ, List, [], ◌++◌, length}
use Rattle.record_lines.specs.Cutting.{HasCut}
use Rattle.collector_answers.specs.Judging.{LIMIT}
use Rattle.collect_rounds.specs.Takes.{standing_of}
use Rattle.collect_rounds.proofs.Standing.{HasTaken}
use Rattle.collect_rounds.proofs.collector.Collector.take_piece.Given as goal

abbrev pub invariant-loop-cut : goal.invariant-loop-cut
invariant-loop-cut l = (start : ℕ) (begun : List ℕ) → l.fn.self.cutter.limit ≡ LIMIT → HasCut l.fn.self.cutter start begun
    → HasTaken (record (standing_of l.fn.self) { added = []; answers = [] }) (begun ++ l.piece) l.self

abbrev pub decreases-loop-cut : goal.decreases-loop-cut
decreases-loop-cut l = length l.self.cutter.ready
