-- The first seat of a store, and those that are split off from it and joined into it.
use Rattle.std.specs.Prelude.{◌≡◌, ◌≢◌, ◌+◌, ◌<◌, ◌≤◌, All, List, ◌++◌, length, map}
use Rattle.std.specs.List.{range_with_len}
use Rattle.session_state.specs.Kept.{Kept}
use Rattle.turn_lock.specs.declared.board.Stands.{Ghosts}
use Rattle.turn_lock.specs.declared.lock.TurnSeat.{TurnSeat}
use Rattle.turn_lock.specs.Turns.{Grows}
use Rattle.turn_lock.specs.Words.{joined, number, seats_out, seen, split_off, IsAtRest, IsFirst, Overhears}
use Rattle.shared_store.specs.declared.noted.Noted.{Noted}
use Rattle.shared_store.specs.declared.shared.Shared.{Shared}
use Rattle.shared_store.specs.declared.store.Store.{Store}
use Rattle.shared_store.specs.Seats.{IsSplitFrom}
use Rattle.shared_store.specs.Words.{IsSeatOf}
use Rattle.thread_laws.specs.Joining.{HasEach}

module _ {g : Ghosts Shared Kept Noted} where
  -- the first seat of the store, at rest
  pub record StaysFirst (store : Store) (seat : TurnSeat Shared Kept Noted g) : Type 0 where
    pub of : IsSeatOf store seat
    pub rest : IsAtRest seat
    pub first : IsFirst seat

  -- It alone is out, and has joined each seat that it ever split off.
  pub record IsAlone (store : Store) (first : TurnSeat Shared Kept Noted g) : Type 0 where
    pub stays : StaysFirst store first
    pub alone : seats_out first ≡ 1
    pub joined_all : HasEach (split_off first) (joined first)

  -- The first seat, which was the old one, has split off these: their numbers follow one another, and each has seen what the first has.
  pub record AreSplit (store : Store) (old new : TurnSeat Shared Kept Noted g) (seats : List (TurnSeat Shared Kept Noted g)) : Type 0 where
    pub stays : StaysFirst store new
    pub sees : seen new ≡ seen old
    pub splits : split_off new ≡ split_off old + length seats
    pub joins : joined new ≡ joined old
    pub out : seats_out new ≡ seats_out old + length seats
    pub numbers : map number seats ≡ range_with_len (split_off old + 1) (length seats)
    pub each : All (IsSplitFrom store old) seats

  -- it is one of the store, at rest and not the first
  pub record IsLater (store : Store) (seat : TurnSeat Shared Kept Noted g) : Type 0 where
    pub of : IsSeatOf store seat
    pub rest : IsAtRest seat
    pub later : number seat ≢ 0

  -- The first seat, which was the old one, has joined these: its list begins with each of theirs, and behind that has nothing of their numbers.
  pub record AreJoined (store : Store) (old new : TurnSeat Shared Kept Noted g) (seats : List (TurnSeat Shared Kept Noted g)) : Type 0 where
    pub stays : StaysFirst store new
    pub splits : split_off new ≡ split_off old
    pub joins : joined new ≡ map number seats ++ joined old
    pub out : seats_out old ≡ seats_out new + length seats
    pub own : Overhears old new
    pub theirs : All (λ seat. Grows (λ n. n ≢ number seat) (seen seat) (seen new)) seats
    pub numbered : 0 < length seats → All (λ note. note.0 ≤ split_off new) (seen new)
