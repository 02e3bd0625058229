-- A state beside the list that a keeper has.
use Rattle.std.specs.Prelude.{◌≡◌, ◌⊎◌, ℕ, true, List, [], ◌++◌, take, None}
use Rattle.entry_model.specs.declared.entry.Batch.{Batch}
use Rattle.entry_model.specs.declared.entry.Entry.{Entry}
use Rattle.entry_model.specs.declared.restored.Restored.{Restored}
use Rattle.entry_model.specs.Summary.{summary}
use Rattle.entry_model.specs.Views.{is_evented_table}
use Rattle.session_state.specs.Kept.{IsState, Kept}
use Rattle.session_state.specs.Expiries.{expiries}
use Rattle.session_state.specs.StateOf.{IsStateOf}
use Rattle.session_state.specs.Ticks.{first_due, owed_at}
use Rattle.daemon_rounds.specs.Adding.{AddsEntries}
use Rattle.daemon_rounds.specs.Answering.{AnswersEach, AreOwn, committed_all}
use Rattle.daemon_rounds.specs.Telling.{AreTellable, AreLinesOf}
use Rattle.pack_rules.specs.declared.schedule.Form.{Form}

-- the list is one with these values, and behind it what was sealed since
pub record IsKeptFrom (base : Restored) (sealed kept : List Entry) : Type 0 where
  pub before : List Entry
  pub is : kept ≡ before ++ sealed
  pub same : summary before ≡ base

-- The state goes on from the keeper's list: over the values that it began from it stands for what was sealed since, and behind that its
-- tail. Where the keeper tells its list, that is one from these values on.
pub record GoesOn (tells : Type 0) (kept : List Entry) (s : Kept) : Type 0 where
  pub base : Restored
  pub sealed : List Entry
  pub stands : IsStateOf base (sealed ++ s.tail) s
  pub list : tells → IsKeptFrom base sealed kept

-- a batch for each due query, and then an expiry for each table that owes one; behind them no query is due and no floor is owed
pub record Settles (old new : Kept) : Type 0 where
  pub batches : List Batch
  pub between : Kept
  pub answers : AddsEntries old (committed_all batches) between
  pub each : AnswersEach old batches between
  pub is : IsState between
  pub expired : List Entry
  pub are : expired ≡ expiries between
  pub brings : AddsEntries old (committed_all batches ++ expired) new
  pub own : AreOwn old.counts.position batches
  pub tellable : AreTellable (committed_all batches ++ expired)
  pub answered : first_due new ≡ None
  pub settled : (table : ℕ) → is_evented_table table ≡ true → owed_at new table ≡ None

-- A tick is done: the state settled; what it then had in its tail is kept behind the list and told on the results, where the keeper and the
-- sink tell; and the state goes on from the list
pub record Finishes (keeper_tells sink_tells : Type 0) (host : List ℕ) (form : Form) (kept_before kept_after : List Entry) (written_before written_after : List ℕ) (old new : Kept) : Type 0 where
  pub settled : Kept
  pub settles : Settles old settled
  pub taken : new ≡ record settled { tail = [] }
  pub kept : keeper_tells → kept_after ≡ kept_before ++ settled.tail
  pub goes_on : GoesOn keeper_tells kept_after new
  pub told : sink_tells → (lines : List ℕ) × AreLinesOf host form settled.tail lines × (written_after ≡ written_before ++ lines)

-- at a fault of the keeper its list is as before, or has the whole tail of a settled state
abbrev pub IsWhole : List Entry → List Entry → Kept → Type 0
IsWhole kept_before kept_after old =
    (kept_after ≡ kept_before) ⊎ ((settled : Kept) × Settles old settled × (kept_after ≡ kept_before ++ settled.tail))

-- at a fault of the sink the whole tail of a settled state is kept and gone from the state, and a front part of its lines was written
pub record IsPartlyTold (keeper_tells sink_tells : Type 0) (host : List ℕ) (form : Form) (kept_before kept_after : List Entry) (written_before written_after : List ℕ) (old new : Kept) : Type 0 where
  pub settled : Kept
  pub settles : Settles old settled
  pub taken : new ≡ record settled { tail = [] }
  pub kept : keeper_tells → kept_after ≡ kept_before ++ settled.tail
  pub told : sink_tells → (lines : List ℕ) × (count : ℕ) × AreLinesOf host form settled.tail lines × (written_after ≡ written_before ++ take count lines)
