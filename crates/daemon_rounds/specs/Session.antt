-- A session is open.
use Rattle.std.specs.Prelude.{◌≡◌, ℕ, List, ◌<◌, Some, slice_get}
use Rattle.osq_config.specs.declared.config.Config.{Config}
use Rattle.source_feeds.specs.Feeding.{Feeding}
use Rattle.entry_model.specs.declared.restored.Restored.{Restored}
use Rattle.session_state.specs.Kept.{Kept}
use Rattle.daemon_rounds.specs.Moments.{IsRead}
use Rattle.daemon_rounds.specs.Opening.{Opens, OpensTooMuch}
use Rattle.daemon_rounds.specs.Starting.{IsStarted}
use Rattle.daemon_rounds.specs.declared.setup.Setup.{Setup}

-- The session opened over these values: the clock was read once, and the moment is its reading or the kept one, whichever is later; each source
-- was started where earlier sessions left it; and the state is that of an opening at this moment.
pub record IsOpen {S C : Type 0} (tells : Type 0) (left : S → List ℕ) (faults : S → ℕ) (reads : C → ℕ → C → Type 0) (setup : Setup) (config : Config) (documents : List (List ℕ)) (restored : Restored) (clock after : C) (sources rests : List S) (moment : ℕ) (feeds : List Feeding) (state : Kept) : Type 0 where
  pub read : IsRead reads clock after restored.moment moment
  pub started : List Feeding
  pub between : List S
  pub starts : IsStarted tells left faults restored.taken config.categories setup.sources started sources between
  pub opens : Opens tells left faults setup.records restored config documents setup.host moment started feeds between rests state

-- its sources were started, and one step of a source of tables gave too much
pub record IsOverfull {S : Type 0} (tells : Type 0) (left : S → List ℕ) (faults : S → ℕ) (setup : Setup) (config : Config) (restored : Restored) (sources rests : List S) : Type 0 where
  pub started : List Feeding
  pub nexts : List Feeding
  pub between : List S
  pub starts : IsStarted tells left faults restored.taken config.categories setup.sources started sources between
  pub too_much : OpensTooMuch tells left faults setup.records restored started nexts between rests
