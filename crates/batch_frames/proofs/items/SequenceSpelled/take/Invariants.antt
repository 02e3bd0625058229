use Rattle.std.proofs.Common.{◌≡◌, ℕ, List, ◌++◌, length, map}
use Rattle.std.specs.List.{AllByRecursion}
use Rattle.result_batches.specs.Json.{array}
use Rattle.batch_frames.proofs.Arrays.{HasRead}
use Rattle.batch_frames.proofs.items.SequenceSpelled.take.Given as goal

abbrev pub invariant-loop-alloc : goal.invariant-loop-alloc
invariant-loop-alloc g l =
    (values : List _) (tail : List ℕ) → AllByRecursion g.T.Spelled.is_held values → l.fn.bytes ≡ array (map g.T.Spelled.text values) ++ tail
    → HasRead g.T.Spelled.text g.T.Spelled.is_held l.items values l.rest tail

abbrev pub decreases-loop-alloc : goal.decreases-loop-alloc
decreases-loop-alloc g l = length l.rest
