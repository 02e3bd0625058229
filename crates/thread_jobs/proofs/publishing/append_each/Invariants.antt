use Rattle.std.proofs.Common.{length}
use Rattle.turn_lock.specs.Words.{number, seen, IsAtRest, IsSame}
use Rattle.shared_store.specs.Words.{start_of}
use Rattle.thread_jobs.proofs.Adding.{IsAdding}
use Rattle.thread_jobs.proofs.publishing.append_each.Given as goal

abbrev pub invariant-loop-reading : goal.invariant-loop-reading
invariant-loop-reading g l =
    IsSame l.initial.seat l.seat × IsAtRest l.seat
    × IsAdding (start_of l.store) (number l.initial.seat) (seen l.initial.seat) l.source l.initial.rest.items l.rest.items (seen l.seat)

abbrev pub decreases-loop-reading : goal.decreases-loop-reading
decreases-loop-reading g l = length l.rest.items
