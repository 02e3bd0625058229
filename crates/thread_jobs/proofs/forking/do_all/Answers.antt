use denote.Param.Send.{given_send, given_sync, sendable}
use Rattle.std.proofs.Crossing
use Rattle.thread_jobs.proofs.Sent.{of_work}
use Rattle.thread_jobs.proofs.forking.do_all.Goals as goal

pub join_mut-requires-send-F : goal.join_mut-requires-send-F
join_mut-requires-send-F g c κs within = let r = c.type_bounds.sync-R in let s = c.type_bounds.send-S in let h = c.type_bounds.sync-G in search (of_work, given_sync, given_send, Crossing.crosses, sendable) depth 60 fits 20000
