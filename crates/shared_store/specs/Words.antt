-- What a clause says of a store and of its seats.
use Rattle.std.specs.Prelude.{ℕ}
use Rattle.session_state.specs.Kept.{Kept}
use Rattle.turn_lock.specs.declared.board.Stands.{Ghosts}
use Rattle.turn_lock.specs.declared.lock.TurnSeat.{TurnSeat}
use Rattle.turn_lock.specs.Words as lock
use Rattle.shared_store.specs.declared.noted.Noted.{Noted}
use Rattle.shared_store.specs.declared.shared.Shared.{Shared}
use Rattle.shared_store.specs.declared.store.Store.{Store}

-- the state that it was made over
abbrev pub start_of : Store → Kept
start_of store = lock.start_of store.lock

-- how many seats may be out
abbrev pub most_seats : Store → ℕ
most_seats store = lock.most_seats store.lock

module _ {g : Ghosts Shared Kept Noted} where
  -- the seat is one of this store
  abbrev pub IsSeatOf : Store → TurnSeat Shared Kept Noted g → Type 0
  IsSeatOf store seat = lock.IsSeatOf store.lock seat
