use Rattle.std.proofs.Common.{◌≡◌, ◌++◌, length}
use Rattle.std.specs.Vec.Iter.{into_iter_items, into_iter_len}
use Rattle.shared_store.proofs.Seats.{Joins}
use Rattle.shared_store.proofs.store.Store.join_all.Given as goal

abbrev pub invariant-loop-other : goal.invariant-loop-other
invariant-loop-other l =
    let rest = l.other-iterator in
    (goal.iterator-loop-other).can_next rest
    × (goal.iterator-loop-other).is_finite rest
    × (into_iter_len rest ≡ length (into_iter_items rest))
    × (l.fn.others.items ≡ l.yielded ++ into_iter_items rest)
    × Joins l.self l.initial.seat l.seat l.yielded
