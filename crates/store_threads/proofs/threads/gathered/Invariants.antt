use Rattle.std.proofs.Common.{◌≡◌, ◌*◌, ◌≤◌, ◌++◌, map, length}
use Rattle.std.specs.Vec.Iter.{into_iter_items, into_iter_len}
use Rattle.turn_lock.specs.Turns.{total}
use Rattle.store_threads.proofs.threads.gathered.Given as goal

abbrev pub invariant-loop-one : goal.invariant-loop-one
invariant-loop-one l =
    let rest = l.one-iterator in
    (goal.iterator-loop-one).can_next rest
    × (goal.iterator-loop-one).is_finite rest
    × (into_iter_len rest ≡ length (into_iter_items rest))
    × (l.fn.worked.items ≡ l.yielded ++ into_iter_items rest)
    × (l.seats.items ≡ map (λ w. w.0) l.yielded)
    × (l.all ≡ total (λ w. w.1) l.yielded)
    × (l.all ≤ 4294967296 * length l.yielded)
