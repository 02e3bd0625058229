use Rattle.std.proofs.Common.{rules, ◌≡◌, length}
use Rattle.shared_store.specs.Seats.{HasAdded}
use Rattle.store_threads.proofs.Owners.{zip_of}
use denote.Param.Send.{given_sync, sendable}
use Rattle.std.proofs.Crossing
use Rattle.store_threads.proofs.Sent.{of_stores, of_work, shared_send}
use Rattle.store_threads.proofs.threads.add_in_threads.Goals as goal

pub returns : goal.returns
returns g c =
    let long : length c.in_ok-worked.worked.items ≡ length c.args.seats.items = search rules in
    zip_of HasAdded c.args.seats.items c.in_ok-worked.worked.items long
    (λ i d e h. let r = (c.in_ok-worked.ensures.each i e h).1 in grind rules)

pub map_vec-requires-send-J : goal.map_vec-requires-send-J
map_vec-requires-send-J g c κs within = search (of_stores, shared_send, Crossing.crosses, sendable) depth 60 fits 20000

pub map_vec-requires-send-X : goal.map_vec-requires-send-X
map_vec-requires-send-X g c κs within = search (of_stores, shared_send, Crossing.crosses, sendable) depth 60 fits 20000

pub map_vec-requires-sync-F : goal.map_vec-requires-sync-F
map_vec-requires-sync-F g c κs within = let r = c.type_bounds.sync-R in search (of_work, given_sync, Crossing.crosses, sendable) depth 60 fits 20000
