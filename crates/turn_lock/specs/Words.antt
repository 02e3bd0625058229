-- What a clause says of a lock and of its seats.
use Rattle.std.specs.Prelude.{◌≡◌, ◌≢◌, ℕ, List}
use Rattle.turn_lock.specs.declared.board.Stands.{Ghosts}
use Rattle.turn_lock.specs.declared.lock.TurnSeat.{TurnSeat}
use Rattle.turn_lock.specs.declared.lock.TurnLock.{TurnLock}
use Rattle.turn_lock.specs.Turns.{Grows, IsAbsent}
use Rattle.turn_lock.specs.Seats as place

module _ {T A E : Type 0} where
  -- what the lock's value stands for before any turn
  abbrev pub start_of : TurnLock T A E → A
  start_of l = l.table.shared.key.start.value

  -- how many seats may be out
  abbrev pub most_seats : TurnLock T A E → ℕ
  most_seats l = l.seats

module _ {T A E : Type 0} {g : Ghosts T A E} where
  abbrev pub number : TurnSeat T A E g → ℕ
  number s = place.number s.seat

  -- the entries that the seat's owner has seen, each with the number of the seat that added it
  abbrev pub seen : TurnSeat T A E g → List (ℕ × E)
  seen s = place.seen s.seat

  -- how many seats the first seat split off
  abbrev pub split_off : TurnSeat T A E g → ℕ
  split_off s = place.given s.seat

  -- the numbers of the seats that were joined into the first one, the last one first
  abbrev pub joined : TurnSeat T A E g → List ℕ
  joined s = place.joined s.seat

  -- how many seats are out, by the first one
  abbrev pub seats_out : TurnSeat T A E g → ℕ
  seats_out s = place.seats_out_of s.seat

  abbrev pub IsFirst : TurnSeat T A E g → Type 0
  IsFirst s = place.number s.seat ≡ 0

  abbrev pub IsAtRest : TurnSeat T A E g → Type 0
  IsAtRest s = place.IsAtRest s.seat

  abbrev pub IsInTurn : TurnSeat T A E g → Type 0
  IsInTurn s = place.IsInTurn s.seat

  abbrev pub IsSeatOf : TurnLock T A E → TurnSeat T A E g → Type 0
  IsSeatOf l s = place.IsSeatOf l.table.shared.table_id l.table.shared.key.start.value s.seat

  -- the same seat of the same lock, but for what it has seen and whether it is in turn
  abbrev pub IsSame : TurnSeat T A E g → TurnSeat T A E g → Type 0
  IsSame old new = place.IsSame old.seat new.seat

  -- the number is neither the seat's nor that of a seat joined into it
  abbrev pub IsOther : TurnSeat T A E g → ℕ → Type 0
  IsOther s n = (n ≢ number s) × IsAbsent (joined s) n

  -- what the seat has seen grew by entries of others
  abbrev pub Overhears : TurnSeat T A E g → TurnSeat T A E g → Type 0
  Overhears old new = Grows (IsOther old) (seen old) (seen new)
