use Rattle.std.proofs.Common.{All, length, map}
use Rattle.thread_rounds.specs.Seats.{AreJoined, IsLater}
use Rattle.thread_rounds.proofs.Ended.{WasRefused}
use Rattle.thread_rounds.proofs.seats.join_jobs.Given as goal

abbrev pub invariant-loop-job : goal.invariant-loop-job
invariant-loop-job l =
    (so : WasRefused l.initial.jobs.items l.jobs.items l.refused) × AreJoined l.store l.initial.first l.first (map (λ job. job.seat) so.done) × All (λ job. IsLater l.store job.seat) l.jobs.items

abbrev pub decreases-loop-job : goal.decreases-loop-job
decreases-loop-job l = length l.jobs.items
