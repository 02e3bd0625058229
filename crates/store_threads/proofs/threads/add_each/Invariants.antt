use Rattle.std.proofs.Common.{◌≡◌, ◌+◌, ◌≤◌}
use Rattle.turn_lock.specs.Words.{IsSame, IsAtRest}
use Rattle.shared_store.specs.Seats.{own_count}
use Rattle.store_threads.proofs.threads.add_each.Given as goal

abbrev pub invariant-loop-at : goal.invariant-loop-at
invariant-loop-at g l = IsSame l.initial.seat l.seat × IsAtRest l.seat × (own_count l.seat ≡ own_count l.initial.seat + l.added) × (l.added ≤ l.at)
