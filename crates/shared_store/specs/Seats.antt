-- Many seats of a store.
use Rattle.std.specs.Prelude.{◌≡◌, ◌≢◌, ℕ, ◌+◌, length}
use Rattle.std.specs.List.{All}
use Rattle.turn_lock.specs.Own.{own}
use Rattle.turn_lock.specs.declared.board.Stands.{Ghosts}
use Rattle.turn_lock.specs.declared.lock.TurnSeat.{TurnSeat}
use Rattle.turn_lock.specs.Words as lock
use Rattle.session_state.specs.Kept.{Kept}
use Rattle.shared_store.specs.declared.noted.Noted.{Noted}
use Rattle.shared_store.specs.declared.shared.Shared.{Shared}
use Rattle.shared_store.specs.declared.store.Store.{Store}
use Rattle.shared_store.specs.Words.{IsSeatOf}

module _ {g : Ghosts Shared Kept Noted} where
  -- A seat that was split off: it is at rest and isn't the first, and has seen what the first had seen, where nothing has its number.
  pub record IsSplitFrom (store : Store) (first seat : TurnSeat Shared Kept Noted g) : Type 0 where
    pub of : IsSeatOf store seat
    pub rest : lock.IsAtRest seat
    pub later : lock.number seat ≢ 0
    pub sees : lock.seen seat ≡ lock.seen first
    pub fresh : All (λ x. x.0 ≢ lock.number seat) (lock.seen seat)

  -- how many notes of its own the seat has seen
  abbrev pub own_count : TurnSeat Shared Kept Noted g → ℕ
  own_count seat = length (own (lock.number seat) (lock.seen seat))

  -- the seat comes back with so many notes of its own more
  pub record HasAdded (seat : TurnSeat Shared Kept Noted g) (worked : TurnSeat Shared Kept Noted g × ℕ) : Type 0 where
    pub same : lock.IsSame seat worked.0
    pub rest : lock.IsAtRest worked.0
    pub added : own_count worked.0 ≡ own_count seat + worked.1
