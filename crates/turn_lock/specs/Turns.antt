-- What a seat knows, the rule of the table behind the lock, and what each step tells.
use Rattle.std.specs.Prelude.{◌≡◌, ◌≢◌, ◌⊎◌, ℕ, ◌+◌, ◌%◌, ◌^◌, ◌<◌, ◌≤◌, Bool, true, false, List, [], ◌∷◌, ◌++◌, map, length, drop, Option, Some, None}
use Rattle.std.specs.List.{All}
use mathlib.Core.Option.{some}
use lib.ListN.{get_elem?}
use Rattle.atomic_table.specs.Table.{State, Me, Step}
use Rattle.turn_lock.specs.declared.board.Phase.{Phase}
use Rattle.turn_lock.specs.declared.board.Phase.TheVariants.{Idle, Joined, Waits, InTurn, Spent}
use Rattle.turn_lock.specs.declared.board.View.{View}
use Rattle.turn_lock.specs.declared.board.Terms.{Terms}

-- the entries, without the numbers of the seats that added them
abbrev pub entries : {E : Type 0} → List (ℕ × E) → List E
entries xs = map (λ x. x.1) xs

-- these entries under one number
abbrev pub stamp : {E : Type 0} → ℕ → List E → List (ℕ × E)
stamp n xs = map (λ x. (n, x)) xs

-- the number isn't among these
abbrev pub IsAbsent : List ℕ → ℕ → Type 0
IsAbsent ks n = All (λ k. k ≢ n) ks

-- ys begins with xs, and each entry behind that has a number that meets P
abbrev pub Grows : {E : Type 0} → (ℕ → Type 0) → List (ℕ × E) → List (ℕ × E) → Type 0
Grows {E} P xs ys = (rest : List (ℕ × E)) × (ys ≡ xs ++ rest) × All (λ x. P x.0) rest

-- the longer of two lists that begin one list
abbrev pub longer : {X : Type 0} → List X → List X → List X
longer xs ys = xs ++ drop (length xs) ys

-- what f gives of each, added up
abbrev pub total : {X : Type 0} → (X → ℕ) → List X → ℕ
total f [] = 0
total f (x ∷ xs) = f x + total f xs

abbrev pub tickets_of : Phase → ℕ
tickets_of Idle = 0
tickets_of Joined = 0
tickets_of (Waits t) = 1
tickets_of InTurn = 1
tickets_of Spent = 0

abbrev pub outs_of : Phase → ℕ
outs_of Idle = 1
outs_of Joined = 1
outs_of (Waits t) = 1
outs_of InTurn = 1
outs_of Spent = 0

module _ {A E : Type 0} where
  -- how many tickets a seat holds
  abbrev pub tickets : View A E → ℕ
  tickets v = tickets_of v.phase

  -- 1 for a seat that is out, and 0 for one that was joined into the first
  abbrev pub outs : View A E → ℕ
  outs v = outs_of v.phase

  -- it is neither the seat's number nor that of a seat joined into it
  abbrev pub IsOthers : View A E → ℕ → Type 0
  IsOthers v n = (n ≢ v.number) × IsAbsent v.joined n

  abbrev pub first_view : A → View A E
  first_view a = record { start = Some a; number = 0; phase = Idle; seen = []; given = 0; joined = []; before = []; heard = [] }

  abbrev pub spent_view : View A E
  spent_view = record { start = None; number = 0; phase = Spent; seen = []; given = 0; joined = []; before = []; heard = [] }

  abbrev pub left_of : View A E → View A E
  left_of v = record v { given = v.given + 1 }

  abbrev pub right_of : View A E → View A E
  right_of v = record { start = v.start; number = v.given + 1; phase = Idle; seen = v.seen; given = 0; joined = []; before = []; heard = [] }

  abbrev pub both_of : View A E → View A E → View A E
  both_of v w = record { start = v.start; number = v.number; phase = Joined; seen = longer v.seen w.seen; given = v.given; joined = w.number ∷ v.joined; before = v.seen; heard = w.seen }

  -- what holds of the seat at the place j, which is out
  pub record Sits (start : A) (log : List (ℕ × E)) (place : ℕ → ℕ) (given : ℕ) (joined : List ℕ) (j : ℕ) (v : View A E) : Type 0 where
    pub starts : v.start ≡ Some start
    pub placed : place v.number ≡ j
    pub within : v.number ≤ given
    pub apart : IsAbsent joined v.number
    pub sees : Grows (IsOthers v) v.seen log
    pub first : v.number ≡ 0 → (v.given ≡ given) × (v.joined ≡ joined)
    pub later : v.number ≢ 0 → v.joined ≡ []

  -- what the first seat has heard from another, between the two steps of a join
  pub record Hears (log : List (ℕ × E)) (v : View A E) : Type 0 where
    pub number : ℕ
    pub others : List ℕ
    pub joined : v.joined ≡ number ∷ others
    pub own : Grows (λ n. (n ≢ v.number) × IsAbsent others n) v.before log
    pub theirs : Grows (λ n. n ≢ number) v.heard log
    pub one : (v.seen ≡ v.before) ⊎ (v.seen ≡ v.heard)
    pub long : v.seen ≡ longer v.before v.heard

  module _ (start : A) (log : List (ℕ × E)) (drawn served : ℕ) (owner : ℕ → ℕ) (busy : Bool) (place : ℕ → ℕ) (given : ℕ) (joined : List ℕ) (j : ℕ) (v : View A E) where
    abbrev pub Knows : Phase → Type 0
    Knows Idle = Sits start log place given joined j v
    Knows Joined = Sits start log place given joined j v × Hears log v
    Knows (Waits t) = Sits start log place given joined j v × (served ≤ t) × (t < drawn) × (owner t ≡ j)
    Knows InTurn = Sits start log place given joined j v × (served < drawn) × (owner served ≡ j) × (busy ≡ true) × (v.seen ≡ log)
    Knows Spent = Unit {0}

-- The log has the entries of all turns, and `owner` says which seat drew a ticket, `place` which seat has a number. `busy` is true during a turn.
pub record Kept {T A E : Type 0} (stands : T → A → List E → Type 0) (terms : Terms A) (s : State (Option T) (View A E)) : Type 0 where
  pub log : List (ℕ × E)
  pub drawn : ℕ
  pub served : ℕ
  pub owner : ℕ → ℕ
  pub busy : Bool
  pub place : ℕ → ℕ
  pub given : ℕ
  pub joined : List ℕ
  pub few : terms.seats < 2 ^ 32
  pub words : s.words ≡ (drawn % 2 ^ 64) ∷ (served % 2 ^ 64) ∷ []
  pub home : busy ≡ false → (x : T) × (get_elem? s.homes 0 ≡ some (some (Some x))) × stands x terms.start.value (entries log)
  pub holder : busy ≡ true → (v : View A E) × (get_elem? s.views (owner served) ≡ some v) × (v.phase ≡ InTurn)
  pub held : drawn ≡ served + total tickets s.views
  pub count : total outs s.views + length joined ≡ given + 1
  pub most : total outs s.views ≤ terms.seats
  pub numbers : (n : ℕ) → n ≤ given → IsAbsent joined n → (v : View A E) × (get_elem? s.views (place n) ≡ some v) × (outs v ≡ 1) × (v.number ≡ n)
  pub stamped : All (λ x. x.0 ≤ given) log
  pub gone : All (λ k. k ≤ given) joined
  pub each_seat : (j : ℕ) (v : View A E) → get_elem? s.views j ≡ some v → Knows terms.start.value log drawn served owner busy place given joined j v v.phase

abbrev pub Sat : Type 0 → Type 0 → Type 0 → Type 0
Sat T A E = Me (Option T) (View A E)

abbrev pub At : Type 0 → Type 0
At T = Step (Option T)

module _ {A E : Type 0} where
  -- what a seat at rest learns
  pub record Told (v : View A E) : Type 0 where
    pub numbered : v.number ≡ 0 → All (λ x. x.0 ≤ v.given) v.seen
    pub few : v.number ≡ 0 → length v.joined ≤ v.given
    pub hears : v.phase ≡ Joined → Hears v.seen v

module _ {T A E : Type 0} where
  -- a ticket was drawn
  abbrev pub drew : At T → Sat T A E → ℕ → Sat T A E → Type 0
  drew st m n m' = (t : ℕ) × (n ≡ t % 2 ^ 64) × (m' ≡ (record m.0 { phase = Waits t }, m.1))

  -- the seat is in turn, with the value, and has seen all entries
  pub record Served (stands : T → A → List E → Type 0) (m m' : Sat T A E) : Type 0 where
    pub value : T
    pub all : List (ℕ × E)
    pub seat : m' ≡ (record m.0 { phase = InTurn; seen = all }, (0, Some value) ∷ m.1)
    pub grows : Grows (IsOthers m.0) m.0.seen all
    pub stood : (a : A) → m.0.start ≡ Some a → stands value a (entries all)
    pub numbered : m.0.number ≡ 0 → All (λ x. x.0 ≤ m.0.given) all
    pub alone : m.0.number ≡ 0 → length m.0.joined ≡ m.0.given → all ≡ m.0.seen

  abbrev pub looked : (T → A → List E → Type 0) → At T → Sat T A E → ℕ → Sat T A E → Type 0
  looked stands st m n m' = (t : ℕ) → m.0.phase ≡ Waits t → (n ≡ t % 2 ^ 64 → Served stands m m') × (n ≢ t % 2 ^ 64 → m' ≡ m)

  -- the turn has ended, and its entries are the seat's
  abbrev pub passed : List E → At T → Sat T A E → ℕ → Sat T A E → Type 0
  passed added st m n m' = m' ≡ (record m.0 { phase = Idle; seen = m.0.seen ++ stamp m.0.number added }, [])

  abbrev pub learned : At T → Sat T A E → ℕ → Sat T A E → Type 0
  learned st m n m' = (m' ≡ (record m.0 { phase = Idle }, m.1)) × Told m.0
