use Rattle.std.proofs.Common.{subst, List, ◌∷◌, map, Contains}
use Rattle.turn_lock.specs.Words.{seen}
use Rattle.shared_store.proofs.Seats.{the_same}
use Rattle.shared_store.proofs.store.Store.split_many.Goals as goal

pub returns-in-Err-clause-seen : goal.returns-in-Err-clause-seen
returns-in-Err-clause-seen c =
    let split = c.split_into.ensures in
    let first = seen c.args.seat.now in
    let others = c.split_into.new.seats.items in
    the_same seen first (seen c.join_all.new.seat) others (λ k d h. (split.new k d h).sees)
    (subst (λ (l : List _). Contains (l ∷ map seen others) (seen c.join_all.new.seat)) split.seen c.join_all.ensures.one)
