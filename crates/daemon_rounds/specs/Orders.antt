-- A round in either order.
use Rattle.std.specs.Prelude.{◌≡◌, ℕ, ◌<◌, ◌^◌, List, length, OnOk, Result, Err}
use Rattle.std.specs.Borrow.{MutBor}
use Rattle.source_feeds.specs.Feeding.{Feeding}
use Rattle.session_state.specs.Kept.{Kept}
use Rattle.session_model.specs.Orders.{Order, in_turn, at_once}
use Rattle.daemon_rounds.specs.AtOnce.{SpendsAtOnce, WorksAtOnce}
use Rattle.daemon_rounds.specs.Rounding.{AllCount, AreGoing, FailsAt, Overflows, Rounds}
use Rattle.daemon_rounds.specs.declared.error.TakeError.{TakeError}
use Rattle.daemon_rounds.specs.declared.error.TakeError.TheVariants as take
use Rattle.daemon_rounds.specs.declared.turning.Which.TheVariants as which

-- one turn of each source, one source after another; or of all at once, beside workers who answer what is due
abbrev pub RoundsIn : {S : Type 0} → Order → (tells : Type 0) (left : S → List ℕ) (faults : S → ℕ) (most : ℕ) (feeds nexts : List Feeding) (sources rests : List S) (old new : Kept) → Type 0
RoundsIn in_turn tells left faults most feeds nexts sources rests old new = Rounds tells left faults which.Every most feeds nexts sources rests old new
RoundsIn at_once tells left faults most feeds nexts sources rests old new = WorksAtOnce tells left faults most feeds nexts sources rests old new

-- no number was left in it
abbrev pub SpendsIn : {S : Type 0} → Order → (tells : Type 0) (left : S → List ℕ) (faults : S → ℕ) (most : ℕ) (feeds nexts : List Feeding) (sources rests : List S) (old new : Kept) → Type 0
SpendsIn in_turn tells left faults most feeds nexts sources rests old new = Overflows tells left faults which.Every most feeds nexts sources rests old new
SpendsIn at_once tells left faults most feeds nexts sources rests old new = SpendsAtOnce tells left most feeds nexts sources rests old

-- What is asked of each round: each source had a turn, and the state gained what they gave; each feed goes on from there. Whatever comes of it the feeds
-- go on counting, and the source that is told did fail.
pub record EndsRound {S : Type 0} (order : Order) (tells : Type 0) (left : S → List ℕ) (faults : S → ℕ) (most : ℕ) (feeds nexts : List Feeding) (sources rests : List S) (old new : Kept) (result : Result (Unit {0}) TakeError) : Type 0 where
  pub round : OnOk result (RoundsIn order tells left faults most feeds nexts sources rests old new)
  pub going : OnOk result (AreGoing new.counts.taken nexts)
  pub counts : AllCount tells left feeds nexts sources
  pub fault : (place : ℕ) → result ≡ Err (take.SourceFault place) → FailsAt faults place sources rests
  pub spent : result ≡ Err take.NumbersSpent → SpendsIn order tells left faults most feeds nexts sources rests old new

-- a call takes such rounds: it may be made wherever a round may be taken, and then ends so
pub record AreRounds {A S : Type 0} (order : Order) (tells : Type 0) (left : S → List ℕ) (faults : S → ℕ) (pre : A → MutBor Kept → MutBor (List Feeding) → MutBor (List S) → ℕ → Type 0)
    (post : A → MutBor Kept → MutBor (List Feeding) → MutBor (List S) → ℕ → Result (Unit {0}) TakeError → MutBor Kept → MutBor (List Feeding) → MutBor (List S) → Type 0) : Type 0 where
  pub asks : (alloc : A) (state : MutBor Kept) (feeds : MutBor (List Feeding)) (sources : MutBor (List S)) (most : ℕ) → most < 2 ^ 64 → length sources.now ≡ length feeds.now → AreGoing state.now.counts.taken feeds.now → pre alloc state feeds sources most
  pub gives : (alloc : A) (state : MutBor Kept) (feeds : MutBor (List Feeding)) (sources : MutBor (List S)) (most : ℕ) (result : Result (Unit {0}) TakeError) (new : MutBor Kept) (nexts : MutBor (List Feeding)) (rests : MutBor (List S)) → most < 2 ^ 64
      → post alloc state feeds sources most result new nexts rests → EndsRound order tells left faults most feeds.now nexts.now sources.now rests.now state.now new.now result
