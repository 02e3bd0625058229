-- A whole tick, by the state and by the list.
use Rattle.std.specs.Prelude.{◌≡◌, ◌⊎◌, ℕ, List, [], ◌++◌, take}
use Rattle.osq_config.specs.declared.config.Config.{Config}
use Rattle.osq_outside.specs.declared.sink.Sink as sink_trait
use Rattle.osq_outside.specs.declared.source.Source as source_trait
use Rattle.source_feeds.specs.Feeding.{Feeding}
use Rattle.entry_model.specs.declared.entry.Entry.{Entry}
use Rattle.entry_model.specs.Legal.{Legal}
use Rattle.batch_keeper.specs.declared.keeper.Keeper as keeper_trait
use Rattle.session_model.specs.Orders.{Order, TicksIn}
use Rattle.session_state.specs.Kept.{Kept}
use Rattle.daemon_rounds.specs.Answering.{SpendsBatches}
use Rattle.daemon_rounds.specs.Keeping.{Settles}
use Rattle.daemon_rounds.specs.Telling.{AreLinesOf}
use Rattle.daemon_rounds.specs.Ticking.{Fills, FillsTooMuch, asks_again, configured_last}
use Rattle.daemon_rounds.specs.declared.setup.Setup.{Setup}
use Rattle.replay_rounds.specs.Fixed.{Fixed}
use Rattle.replay_rounds.specs.FullTicks.{IsFullTick}
use Rattle.replay_rounds.specs.Linking.{IsAcked}
use Rattle.replay_rounds.specs.OneTick.{IsOneTick}
use Rattle.replay_rounds.specs.Standing.{Standing}
use Rattle.replay_rounds.specs.declared.basis.Basis.{Basis}
use Rattle.replay_rounds.specs.declared.ticking.Tick.{Tick}

-- a tick at this moment, up to its seal: it is filled, each due query is answered, and what is owed expires
pub record TickDone {S : Type 0} (order : Order) (tells : Type 0) (left : S → List ℕ) (faults : S → ℕ) (setup : Setup) (config : Config) (documents : List (List ℕ)) (configured_at moment : ℕ) (feeds nexts : List Feeding) (objects rests : List S) (old settled : Kept) : Type 0 where
  pub filled : Kept
  pub fills : Fills order tells left faults setup config documents configured_at moment feeds nexts objects rests old filled
  pub settles : Settles filled settled

-- A whole tick: its entries are kept behind the list and told on the results, where the keeper and the sink tell.
pub record IsTick {S : Type 0} (order : Order) (keeper_tells sink_tells tells : Type 0) (left : S → List ℕ) (faults : S → ℕ) (setup : Setup) (config : Config) (documents : List (List ℕ)) (configured_at last moment : ℕ) (kept_before kept_after : List Entry) (written_before written_after : List ℕ) (feeds nexts : List Feeding) (objects rests : List S) (old new : Kept) : Type 0 where
  pub settled : Kept
  pub done : TickDone order tells left faults setup config documents configured_at moment feeds nexts objects rests old settled
  pub taken : new ≡ record settled { tail = [] }
  pub last_is : last ≡ configured_last (asks_again config configured_at moment) configured_at moment
  pub kept : keeper_tells → kept_after ≡ kept_before ++ settled.tail
  pub told : sink_tells → (lines : List ℕ) × AreLinesOf setup.host.identifier old.schedule.form settled.tail lines × (written_after ≡ written_before ++ lines)

-- a tick that isn't done left the kept list as it was, or it kept all of its entries
abbrev pub IsWholeTick : {S : Type 0} (order : Order) (tells : Type 0) (left : S → List ℕ) (faults : S → ℕ) (setup : Setup) (config : Config) (documents : List (List ℕ)) (configured_at moment : ℕ) (kept_before kept_after : List Entry) (feeds nexts : List Feeding) (objects rests : List S) (old : Kept) → Type 0
IsWholeTick order tells left faults setup config documents configured_at moment kept_before kept_after feeds nexts objects rests old =
    (kept_after ≡ kept_before)
    ⊎ ((settled : Kept) × TickDone order tells left faults setup config documents configured_at moment feeds nexts objects rests old settled × (kept_after ≡ kept_before ++ settled.tail))

-- All of its entries are kept, and the state goes on behind them.
pub record IsSealedTick {S : Type 0} (order : Order) (keeper_tells tells : Type 0) (left : S → List ℕ) (faults : S → ℕ) (setup : Setup) (config : Config) (documents : List (List ℕ)) (configured_at moment : ℕ) (kept_before kept_after : List Entry) (feeds nexts : List Feeding) (objects rests : List S) (old new : Kept) : Type 0 where
  pub settled : Kept
  pub done : TickDone order tells left faults setup config documents configured_at moment feeds nexts objects rests old settled
  pub taken : new ≡ record settled { tail = [] }
  pub kept : keeper_tells → kept_after ≡ kept_before ++ settled.tail

-- all of its entries are kept, and a front part of their lines was written
pub record IsPartlyTold {S : Type 0} (order : Order) (keeper_tells tells : Type 0) (left : S → List ℕ) (faults : S → ℕ) (setup : Setup) (config : Config) (documents : List (List ℕ)) (configured_at moment : ℕ) (kept_before kept_after : List Entry) (written_before written_after : List ℕ) (feeds nexts : List Feeding) (objects rests : List S) (old : Kept) : Type 0 where
  pub settled : Kept
  pub done : TickDone order tells left faults setup config documents configured_at moment feeds nexts objects rests old settled
  pub kept : keeper_tells → kept_after ≡ kept_before ++ settled.tail
  pub lines : List ℕ
  pub count : ℕ
  pub told : AreLinesOf setup.host.identifier old.schedule.form settled.tail lines
  pub written : written_after ≡ written_before ++ take count lines

-- no number was left: for a batch of a tick that was filled, or for the events that a source gave
abbrev pub SpendsTick : {S : Type 0} (order : Order) (tells : Type 0) (left : S → List ℕ) (faults : S → ℕ) (setup : Setup) (config : Config) (documents : List (List ℕ)) (configured_at moment : ℕ) (feeds nexts : List Feeding) (objects rests : List S) (old new : Kept) → Type 0
SpendsTick order tells left faults setup config documents configured_at moment feeds nexts objects rests old new =
    ((filled : Kept) × Fills order tells left faults setup config documents configured_at moment feeds nexts objects rests old filled × SpendsBatches filled)
    ⊎ FillsTooMuch order tells left faults setup config documents configured_at moment feeds nexts objects rests old new

-- By the list: behind what the session has added there are now the entries of a tick at this moment, and where the sources tell, those that aren't
-- at their end gave full steps in it. The state has them in its tail.
pub record TakesTick {S : Type 0} (left : S → List ℕ) (x : Fixed) (added kept : List Entry) (nexts : List Feeding) (rests : List S) (last moment : ℕ) (old settled : Kept) : Type 0 where
  pub own : List Entry
  pub ticks : x.keeper_tells → Legal x.start → TicksIn x.order x.source_tells x.given (x.start ++ added) moment own
  pub full : x.keeper_tells → x.source_tells → Legal x.start → IsFullTick x.order x.source_tells x.given (x.start ++ added) moment nexts own
  pub one : IsOneTick own
  pub standing : Standing left x (added ++ own) kept nexts rests last settled
  pub tail : settled.tail ≡ old.tail ++ own

-- the same of objects, by what they tell
abbrev pub IsTickOf : {K O S : Type 0} → Order → keeper_trait.Ghosts K → sink_trait.Ghosts O → source_trait.Ghosts S → Basis → Tick → ℕ → K → K → O → O → List Feeding → List Feeding → List S → List S → Kept → Kept → Type 0
IsTickOf order keeper sink source basis tick last k l o p feeds nexts objects rests old new =
    IsTick order keeper.tells sink.tells source.tells source.left source.faults basis.setup basis.configured.config basis.configured.documents tick.configured_at last tick.moment (keeper.kept k) (keeper.kept l) (sink.written o) (sink.written p) feeds nexts objects rests old new

abbrev pub IsWholeTickOf : {K S : Type 0} → Order → keeper_trait.Ghosts K → source_trait.Ghosts S → Basis → Tick → K → K → List Feeding → List Feeding → List S → List S → Kept → Type 0
IsWholeTickOf order keeper source basis tick k l feeds nexts objects rests old =
    IsWholeTick order source.tells source.left source.faults basis.setup basis.configured.config basis.configured.documents tick.configured_at tick.moment (keeper.kept k) (keeper.kept l) feeds nexts objects rests old

abbrev pub IsSealedTickOf : {K S : Type 0} → Order → keeper_trait.Ghosts K → source_trait.Ghosts S → Basis → Tick → K → K → List Feeding → List Feeding → List S → List S → Kept → Kept → Type 0
IsSealedTickOf order keeper source basis tick k l feeds nexts objects rests old new =
    IsSealedTick order keeper.tells source.tells source.left source.faults basis.setup basis.configured.config basis.configured.documents tick.configured_at tick.moment (keeper.kept k) (keeper.kept l) feeds nexts objects rests old new

abbrev pub IsPartlyToldOf : {K O S : Type 0} → Order → keeper_trait.Ghosts K → sink_trait.Ghosts O → source_trait.Ghosts S → Basis → Tick → K → K → O → O → List Feeding → List Feeding → List S → List S → Kept → Type 0
IsPartlyToldOf order keeper sink source basis tick k l o p feeds nexts objects rests old =
    IsPartlyTold order keeper.tells source.tells source.left source.faults basis.setup basis.configured.config basis.configured.documents tick.configured_at tick.moment (keeper.kept k) (keeper.kept l) (sink.written o) (sink.written p) feeds nexts objects rests old

abbrev pub SpendsTickOf : {S : Type 0} → Order → source_trait.Ghosts S → Basis → Tick → List Feeding → List Feeding → List S → List S → Kept → Kept → Type 0
SpendsTickOf order source basis tick feeds nexts objects rests old new =
    SpendsTick order source.tells source.left source.faults basis.setup basis.configured.config basis.configured.documents tick.configured_at tick.moment feeds nexts objects rests old new

-- The same of a tick that begins with acknowledgements of these marks.
abbrev pub IsNextTickOf : {K O S : Type 0} → Order → keeper_trait.Ghosts K → sink_trait.Ghosts O → source_trait.Ghosts S → Basis → Tick → List ℕ → ℕ → K → K → O → O → List Feeding → List Feeding → List S → List S → Kept → Kept → Type 0
IsNextTickOf order keeper sink source basis tick marks last k l o p feeds nexts objects rests old new =
    (begun : Kept) × IsAcked old marks begun × IsTickOf order keeper sink source basis tick last k l o p feeds nexts objects rests begun new

abbrev pub IsWholeNextOf : {K S : Type 0} → Order → keeper_trait.Ghosts K → source_trait.Ghosts S → Basis → Tick → List ℕ → K → K → List Feeding → List Feeding → List S → List S → Kept → Type 0
IsWholeNextOf order keeper source basis tick marks k l feeds nexts objects rests old =
    (keeper.kept l ≡ keeper.kept k) ⊎ ((begun : Kept) × IsAcked old marks begun × IsWholeTickOf order keeper source basis tick k l feeds nexts objects rests begun)

abbrev pub IsSealedNextOf : {K S : Type 0} → Order → keeper_trait.Ghosts K → source_trait.Ghosts S → Basis → Tick → List ℕ → K → K → List Feeding → List Feeding → List S → List S → Kept → Kept → Type 0
IsSealedNextOf order keeper source basis tick marks k l feeds nexts objects rests old new =
    (begun : Kept) × IsAcked old marks begun × IsSealedTickOf order keeper source basis tick k l feeds nexts objects rests begun new

abbrev pub IsPartlyNextOf : {K O S : Type 0} → Order → keeper_trait.Ghosts K → sink_trait.Ghosts O → source_trait.Ghosts S → Basis → Tick → List ℕ → K → K → O → O → List Feeding → List Feeding → List S → List S → Kept → Type 0
IsPartlyNextOf order keeper sink source basis tick marks k l o p feeds nexts objects rests old =
    (begun : Kept) × IsAcked old marks begun × IsPartlyToldOf order keeper sink source basis tick k l o p feeds nexts objects rests begun

abbrev pub SpendsNextOf : {S : Type 0} → Order → source_trait.Ghosts S → Basis → Tick → List ℕ → List Feeding → List Feeding → List S → List S → Kept → Kept → Type 0
SpendsNextOf order source basis tick marks feeds nexts objects rests old new =
    (begun : Kept) × IsAcked old marks begun × SpendsTickOf order source basis tick feeds nexts objects rests begun new
