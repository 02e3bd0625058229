-- A call of a store in one turn of its lock.
use Rattle.std.specs.Prelude.{◌≡◌, ◌≤◌, List, ◌++◌}
use Rattle.std.specs.List.{All}
use Rattle.session_state.specs.Kept.{Kept, IsState}
use Rattle.turn_lock.specs.declared.board.Stands.{Ghosts}
use Rattle.turn_lock.specs.declared.lock.TurnSeat.{TurnSeat}
use Rattle.turn_lock.specs.Turns.{entries, stamp}
use Rattle.turn_lock.specs.Words.{number, seen, split_off, seats_out, IsFirst, IsSame, Overhears}
use Rattle.shared_store.specs.declared.noted.Noted.{Noted}
use Rattle.shared_store.specs.Shares.{StandsFor}

module _ {T : Type 0} {g : Ghosts T Kept Noted} where
  -- what the seat has seen, without the numbers of seats
  abbrev pub notes_of : TurnSeat T Kept Noted g → List Noted
  notes_of seat = entries (seen seat)

  -- A turn of the seat begins: it sees a list that begins with what it had seen, and behind that has nothing of its own. The
  -- state stands for that list.
  pub record BeginsTurn (start : Kept) (old mid : TurnSeat T Kept Noted g) (was : Kept) : Type 0 where
    pub same : IsSame old mid
    pub overhears : Overhears old mid
    pub numbered : IsFirst old → All (λ x. x.0 ≤ split_off old) (seen mid)
    pub alone : IsFirst old → seats_out old ≡ 1 → seen mid ≡ seen old
    pub known : IsState was
    pub stands : StandsFor start (notes_of mid) was

  -- It ends: the state stands for that list and these notes, and the seat has seen them too.
  pub record EndsTurn (start : Kept) (mid new : TurnSeat T Kept Noted g) (now : Kept) (notes : List Noted) : Type 0 where
    pub same : IsSame mid new
    pub stands : StandsFor start (notes_of mid ++ notes) now
    pub sees : seen new ≡ seen mid ++ stamp (number mid) notes

  -- in one turn of the seat this holds of the state that was, the state that is, and what was noted
  abbrev pub InTurn : Kept → TurnSeat T Kept Noted g → TurnSeat T Kept Noted g → (Kept → Kept → List Noted → Type 0) → Type 0
  InTurn start old new answers =
      (mid : TurnSeat T Kept Noted g) × (was : Kept) × (now : Kept) × (notes : List Noted) × BeginsTurn start old mid was × EndsTurn start mid new now notes × answers was now notes
