-- Where a session stands between its parts.
use Rattle.std.specs.Prelude.{◌≡◌, ℕ, ◌≤◌, true, None, List, ◌++◌}
use Rattle.pack_rules.specs.declared.schedule.Schedule.{Schedule}
use Rattle.source_feeds.specs.Feeding.{Feeding}
use Rattle.entry_model.specs.declared.entry.Entry.{Entry}
use Rattle.entry_model.specs.declared.restored.Restored.{Restored}
use Rattle.entry_model.specs.Summary.{summary}
use Rattle.entry_model.specs.Values.{last_of, schedule_in}
use Rattle.entry_model.specs.Views.{is_evented_table}
use Rattle.session_model.specs.Configuring.{configured_in}
use Rattle.session_state.specs.Kept.{Kept}
use Rattle.session_state.specs.StateOf.{IsStateOf}
use Rattle.session_state.specs.Ticks.{first_due, owed_at}
use Rattle.daemon_rounds.specs.Rounding.{AreGoing}
use Rattle.daemon_rounds.specs.Telling.{AreTellable}
use Rattle.replay_rounds.specs.Fixed.{Fixed}
use Rattle.replay_rounds.specs.Sources.{AreFed}

-- The session has added these entries to the list before it; the keeper has all of them but those in the state's tail; the
-- entries have its schedule and the moment of its last configuration; and its sources are fed.
pub record Standing {S : Type 0} (left : S → List ℕ) (x : Fixed) (added kept : List Entry) (feeds : List Feeding) (objects : List S) (configured_at : ℕ) (s : Kept) : Type 0 where
  pub base : Restored
  pub same : x.keeper_tells → summary x.start ≡ base
  pub stands : IsStateOf base added s
  pub sealed : List Entry
  pub parts : added ≡ sealed ++ s.tail
  pub list : x.keeper_tells → kept ≡ x.start ++ sealed
  pub configured : (before : ℕ) → last_of configured_in before added ≡ configured_at
  pub schedule : (before : Schedule) → last_of schedule_in before added ≡ s.schedule
  pub fed : x.keeper_tells → AreFed x.source_tells left x.given.config.categories x.start (x.start ++ added) x.given.sources feeds objects

-- the next tick may begin
pub record IsReady (feeds : List Feeding) (configured_at : ℕ) (s : Kept) : Type 0 where
  pub before : configured_at ≤ s.counts.moment
  pub answered : first_due s ≡ None
  pub settled : (table : ℕ) → is_evented_table table ≡ true → owed_at s table ≡ None
  pub going : AreGoing s.counts.taken feeds
  pub tellable : AreTellable s.tail
