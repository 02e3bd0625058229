-- What the sources have behind a kept list is read.
use Rattle.std.specs.Prelude.{ℕ, Bool, List}
use Rattle.osq_value.specs.declared.reading.Category.{Category}
use Rattle.source_feeds.specs.Feeding.{Feeding}
use Rattle.entry_model.specs.declared.restored.Restored.{Restored}
use Rattle.session_state.specs.Kept.{Kept}
use Rattle.session_state.specs.StateOf.{Begins}
use Rattle.daemon_rounds.specs.Starting.{IsStarted}
use Rattle.osq_value.specs.declared.source.SourceName.{SourceName}
use Rattle.query_rounds.specs.Running.{Place, RunsOut, RunsOver, place_of}

-- Over these values a session began, whose sources were started where earlier sessions left them.
pub record IsBegun {S : Type 0} (tells : Type 0) (left : S → List ℕ) (faults : S → ℕ) (names : List SourceName) (paths : List Category) (restored : Restored) (sources : List S) (start : Place S) : Type 0 where
  pub starts : IsStarted tells left faults restored.taken paths names start.feeds sources start.sources
  pub begins : Begins restored start.state

-- then rounds were run, and left this state
pub record HasRead {S : Type 0} (tells : Type 0) (left : S → List ℕ) (faults : S → ℕ) (names : List SourceName) (paths : List Category) (records rounds : ℕ) (restored : Restored) (sources rests : List S) (state : Kept) (is_end : Bool) : Type 0 where
  pub start : Place S
  pub begun : IsBegun tells left faults names paths restored sources start
  pub feeds : List Feeding
  pub runs : RunsOut tells left faults records rounds start (place_of feeds rests state) is_end

-- in one of the rounds a source gave too much
pub record IsOverfull {S : Type 0} (tells : Type 0) (left : S → List ℕ) (faults : S → ℕ) (names : List SourceName) (paths : List Category) (records rounds : ℕ) (restored : Restored) (sources rests : List S) : Type 0 where
  pub start : Place S
  pub begun : IsBegun tells left faults names paths restored sources start
  pub feeds : List Feeding
  pub state : Kept
  pub runs : RunsOver tells left faults records rounds start (place_of feeds rests state)
