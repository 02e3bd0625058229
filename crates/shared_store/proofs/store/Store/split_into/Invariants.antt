use Rattle.std.proofs.Common.{◌≡◌, ◌≤◌, length, vec_capacity}
use Rattle.shared_store.proofs.Seats.{Splits}
use Rattle.shared_store.proofs.store.Store.split_into.Given as goal

abbrev pub invariant-loop : goal.invariant-loop
invariant-loop l = Splits l.self l.initial.seat l.seat l.seats.items × (length l.seats.items ≡ l.counter) × (l.count ≤ vec_capacity l.seats)
