-- The laws of whole sessions, in either order of their ticks.
use Rattle.std.specs.Prelude.{◌≡◌, ℕ, ◌≤◌, ◌<◌, Bool, true, All, Contains, List}
use Rattle.entry_model.specs.declared.entry.Entry.{Entry}
use Rattle.entry_model.specs.Legal.{Legal}
use Rattle.session_model.specs.Given.{Given, Source}
use Rattle.session_model.specs.Orders.{Order}
use Rattle.forward_rounds.specs.Forwarding.{View}
use Rattle.replay_rounds.specs.Fixed.{Fixed}
use Rattle.replay_rounds.specs.Running.{HasMore, HasRun, run_by}
use Rattle.replay_rounds.specs.declared.running.Ended.{Ended}
use Rattle.run_laws.specs.Enough.{AreEnough, enough_for}

-- a session of these over this list, in this order, which forwards through a link or doesn't; whatever the keeper, the sink and the link tell
abbrev pub fixed_by : Order → (keeper_tells sink_tells source_tells link_tells : Type 0) → Given → List Entry → List ℕ → Bool → View → Fixed
fixed_by order keeper_tells sink_tells source_tells link_tells given start written forwards before =
    record {
      order = order;
      keeper_tells = keeper_tells;
      sink_tells = sink_tells;
      source_tells = source_tells;
      given = given;
      start = start;
      written = written;
      link = record { forwards = forwards; tells = link_tells; before = before };
    }

-- A session ended with its ticks, and one of its sources had more: so there were fewer ticks than are enough for it.
pub record HadFewTicks (given : Given) (start : List Entry) (ticks : ℕ) : Type 0 where
  pub source : Source
  pub among : Contains given.sources source
  pub few : ticks < enough_for given.records start source

abbrev pub FewTicks : (tells link_tells : Type 0) → Type 0
FewTicks tells link_tells =
    (order : Order) (given : Given) (start kept : List Entry) (ticks : ℕ) (written : List ℕ) (forwards : Bool) (before : View) → 1 ≤ given.records
    → HasMore (fixed_by order (Unit {0}) (Unit {0}) tells link_tells given start written forwards before) ticks kept → HadFewTicks given start ticks

-- So a run whose ticks are enough for each of its sources reads all of them to their ends.
abbrev pub ReadsWhole : {C : Type 0} → (keeper_tells sink_tells source_tells link_tells : Type 0) → (C → ℕ → C → Type 0) → Type 0
ReadsWhole {C} keeper_tells sink_tells source_tells link_tells reads =
    (order : Order) (given : Given) (start kept : List Entry) (results_before results_after : List ℕ) (forwards : Bool) (link_before link_after : View) (clock now : C) (ticks : ℕ) (ended : Ended)
    → keeper_tells → source_tells → Legal start → 1 ≤ given.records
    → HasRun (run_by (fixed_by order keeper_tells sink_tells source_tells link_tells given start results_before forwards link_before) reads clock now) ticks kept results_after link_after ended
    → All (AreEnough given.records start ticks) given.sources → ended.is_end ≡ true
