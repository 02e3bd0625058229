use denote.Param.Send.{given_send, given_sync, sendable}
use Rattle.std.proofs.Crossing
use Rattle.thread_jobs.proofs.Sent.{of_work}
use Rattle.std.proofs.Common.{rules, ◌≡◌, ◌++◌}
use Rattle.thread_jobs.specs.Forking.{WorkersDone}
use Rattle.thread_jobs.proofs.Forked.{workers_halves}
use Rattle.thread_jobs.proofs.forking.+fn-work_all-join_mut+arg2+fn-work_all-join_mut+arg3+work_all.Goals as goal

pub returns : goal.returns
returns g t c =
    let front : WorkersDone c.split_at_mut-front.result.0.now c.front-1.given.0 = search rules in
    let back : WorkersDone c.split_at_mut-front.result.1.now c.back-1.given.0 = search rules in
    workers_halves _ _ _ _ _ c.split_at_mut-front.ensures.value front back

pub join_mut-requires-send-F : goal.join_mut-requires-send-F
join_mut-requires-send-F g t c κs within = let r = c.requires-raw in search (of_work, given_sync, given_send, Crossing.crosses, sendable) depth 60 fits 20000
