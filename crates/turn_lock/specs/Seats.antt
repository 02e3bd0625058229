-- What a clause says of a seat.
use Rattle.std.specs.Prelude.{◌≡◌, ℕ, ◌+◌, ◌-◌, ◌%◌, ◌^◌, List, [], ◌∷◌, length, Option, Some, None}
use Rattle.atomic_table.specs.Seated.{TableId}
use Rattle.atomic_table.specs.declared.shared.Seat.{Seat}
use Rattle.turn_lock.specs.declared.board.Phase.TheVariants.{Idle, Waits, InTurn}
use Rattle.turn_lock.specs.declared.board.View.{View}
use Rattle.turn_lock.specs.Turns.{Grows, IsOthers}

abbrev pub Place : Type 0 → Type 0 → Type 0 → Type 0
Place T A E = Seat (Option T) (View A E)

-- two words and one slot
abbrev pub IsSized : TableId → Type 0
IsSized z = (z.words ≡ 2) × (z.slots ≡ 1)

module _ {T A E : Type 0} where
  -- the number of the seat
  abbrev pub number : Place T A E → ℕ
  number s = s.me.0.number

  -- the entries that its owner has seen, each with the number of the seat that added it
  abbrev pub seen : Place T A E → List (ℕ × E)
  seen s = s.me.0.seen

  -- how many seats the first seat split off
  abbrev pub given : Place T A E → ℕ
  given s = s.me.0.given

  -- the numbers of the seats that were joined into the first one
  abbrev pub joined : Place T A E → List ℕ
  joined s = s.me.0.joined

  -- how many seats are out, as the first seat counts them
  abbrev pub seats_out_of : Place T A E → ℕ
  seats_out_of s = given s + 1 - length (joined s)

  abbrev pub IsFirst : Place T A E → Type 0
  IsFirst s = s.me.0.number ≡ 0

  abbrev pub IsAtRest : Place T A E → Type 0
  IsAtRest s = (s.me.0.phase ≡ Idle) × (s.me.1 ≡ [])

  abbrev pub IsInTurn : Place T A E → Type 0
  IsInTurn s = (s.me.0.phase ≡ InTurn) × (s.me.1 ≡ (0, None) ∷ [])

  -- it is a seat of this table, whose start is a
  abbrev pub IsSeatOf : TableId → A → Place T A E → Type 0
  IsSeatOf z a s = (s.table_id ≡ z) × (s.me.0.start ≡ Some a)

  -- the same seat, but for what its owner has seen, and whether it is in turn
  pub record IsSame (old new : Place T A E) : Type 0 where
    pub table : new.table_id ≡ old.table_id
    pub id : new.id ≡ old.id
    pub start : new.me.0.start ≡ old.me.0.start
    pub number : new.me.0.number ≡ old.me.0.number
    pub given : new.me.0.given ≡ old.me.0.given
    pub joined : new.me.0.joined ≡ old.me.0.joined

  -- what the seat has seen grew by entries of other seats
  abbrev pub Overhears : Place T A E → Place T A E → Type 0
  Overhears old new = Grows (IsOthers old.me.0) (seen old) (seen new)

  -- it holds this ticket, which is a number below 2 ^ 64
  abbrev pub WaitsFor : ℕ → Place T A E → Type 0
  WaitsFor n s = (t : ℕ) × (s.me.0.phase ≡ Waits t) × (n ≡ t % 2 ^ 64) × (s.me.1 ≡ [])

-- the views differ in their phases alone
abbrev pub Differs : {A E : Type 0} → View A E → View A E → Type 0
Differs v w = w ≡ record v { phase = w.phase }

module _ {T A E : Type 0} where
  -- of a first seat, the number of seats that are out
  abbrev pub seats_counted : ℕ → Place T A E → Type 0
  seats_counted out s = s.me.0.number ≡ 0 → out + length (joined s) ≡ given s + 1
