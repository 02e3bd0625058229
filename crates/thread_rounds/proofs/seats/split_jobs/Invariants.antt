use Rattle.std.proofs.Common.{◌≡◌, ◌≤◌, length, map, vec_capacity}
use Rattle.thread_rounds.specs.Seats.{AreSplit}
use Rattle.thread_rounds.proofs.seats.split_jobs.Given as goal

abbrev pub invariant-loop-who : goal.invariant-loop-who
invariant-loop-who l = AreSplit l.store l.initial.first l.first (map (λ job. job.seat) l.jobs.items) × (length l.jobs.items ≡ l.who) × (l.count ≤ vec_capacity l.jobs)
