use Rattle.std.proofs.Common.{◌-◌, length}
use Rattle.batch_keeper.specs.Indexing.{IsIndex}
use Rattle.batch_keeper.proofs.indexed.look_at_rest.Given as goal

abbrev pub invariant-loop-index : goal.invariant-loop-index
invariant-loop-index l = IsIndex l.entries l.index

abbrev pub decreases-loop-index : goal.decreases-loop-index
decreases-loop-index l = length l.entries - l.index.seen
