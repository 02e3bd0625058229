use denote.Param.Send.{given_sync, sendable}
use Rattle.std.proofs.Crossing
use Rattle.store_threads.proofs.Sent.{of_stores, of_work, shared_send}
use Rattle.store_threads.proofs.threads.add_by_pairs.Goals as goal

pub join-requires-send-F : goal.join-requires-send-F
join-requires-send-F g c κs within = let r = c.type_bounds.sync-R in search (of_work, given_sync, Crossing.crosses, sendable) depth 60 fits 20000

pub join-requires-send-A : goal.join-requires-send-A
join-requires-send-A g c κs within = search (of_stores, shared_send, Crossing.crosses, sendable) depth 60 fits 20000
