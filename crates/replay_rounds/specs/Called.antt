-- How a run calls its keeper, where that counts its calls.
use Rattle.std.specs.Prelude.{◌≡◌, ◌≤◌, ◌+◌, ℕ, zero, suc, Bool, if◌then◌else◌, List}
use Rattle.batch_keeper.specs.declared.keeper.Keeper as keeper_trait
use Rattle.batch_keeper.specs.Calling.{Calls, Fails, Passes}
use Rattle.entry_model.specs.declared.entry.Entry.{Entry}
use Rattle.replay_rounds.specs.OneTick.{ticks_of}

-- The list was loaded and sealed so often, none of these calls was to fail, and as many ticks more begin in it.
pub record HasSealed (tells : Type 0) (before after : Calls) (kept now : List Entry) (ticks : ℕ) : Type 0 where
  pub passed : Passes before (suc ticks) after
  pub ticked : tells → ticks_of now ≡ ticks_of kept + ticks

-- how many ticks more begin in a list behind so many calls that passed and one that failed: the load, or the seal of a tick, which is kept where the seal
-- is whole
abbrev pub ticks_more : Bool → ℕ → ℕ
ticks_more is_whole zero = 0
ticks_more is_whole (suc seals) = seals + (if is_whole then 1 else 0)

-- The load or a seal was to fail and did, the first of them that was to.
pub record HasStopped (tells : Type 0) (before after : Calls) (kept now : List Entry) (ticks : ℕ) : Type 0 where
  pub count : ℕ
  pub few : count ≤ ticks
  pub failed : Fails before count after
  pub ticked : tells → ticks_of now ≡ ticks_of kept + ticks_more before.is_whole count

-- the same of keepers, by what they tell
abbrev pub HasSealedOf : {K : Type 0} → keeper_trait.Ghosts K → K → K → ℕ → Type 0
HasSealedOf keeper k l ticks =
    HasSealed keeper.tells (keeper.calls k) (keeper.calls l) (keeper.kept k) (keeper.kept l) ticks

abbrev pub HasStoppedOf : {K : Type 0} → keeper_trait.Ghosts K → K → K → ℕ → Type 0
HasStoppedOf keeper k l ticks =
    HasStopped keeper.tells (keeper.calls k) (keeper.calls l) (keeper.kept k) (keeper.kept l) ticks
