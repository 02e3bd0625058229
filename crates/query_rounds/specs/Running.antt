-- Rounds of the sources, by the state.
use Rattle.std.specs.Prelude.{◌≡◌, ℕ, ◌<◌, ◌≤◌, zero, suc, Bool, false, List}
use Rattle.source_feeds.specs.Feeding.{Feeding}
use Rattle.session_state.specs.Kept.{Kept}
use Rattle.daemon_rounds.specs.Rounding.{Overflows, Rounds}
use Rattle.daemon_rounds.specs.declared.turning.Which.TheVariants as which
use Rattle.replay_rounds.specs.Sources.{all_over}

-- where a session stands: its feeds, what they are read from, and its state
pub record Place (S : Type 0) : Type 0 where
  pub feeds : List Feeding
  pub sources : List S
  pub state : Kept

abbrev pub place_of : {S : Type 0} → List Feeding → List S → Kept → Place S
place_of feeds sources state = record { feeds = feeds; sources = sources; state = state }

-- one round of all sources leads from one place to another
abbrev pub Turns : {S : Type 0} (tells : Type 0) → (S → List ℕ) → (S → ℕ) → ℕ → Place S → Place S → Type 0
Turns tells left faults most from to =
    Rounds tells left faults which.Every most from.feeds to.feeds from.sources to.sources from.state to.state

-- so many of them do, one after another
abbrev pub TurnsOften : {S : Type 0} (tells : Type 0) → (S → List ℕ) → (S → ℕ) → ℕ → ℕ → Place S → Place S → Type 0
TurnsOften tells left faults most zero from to = to ≡ from
TurnsOften {S} tells left faults most (suc count) from to =
    (between : Place S) × TurnsOften tells left faults most count from between × Turns tells left faults most between to

-- rounds were run until each source was at its end, or until there were so many
pub record RunsOut {S : Type 0} (tells : Type 0) (left : S → List ℕ) (faults : S → ℕ) (most rounds : ℕ) (from to : Place S) (is_end : Bool) : Type 0 where
  pub count : ℕ
  pub few : count ≤ rounds
  pub turns : TurnsOften tells left faults most count from to
  pub over : is_end ≡ all_over to.feeds
  pub all_run : is_end ≡ false → count ≡ rounds

-- behind fewer rounds than that a source gave a reading whose events would have numbers beyond 2^62
pub record RunsOver {S : Type 0} (tells : Type 0) (left : S → List ℕ) (faults : S → ℕ) (most rounds : ℕ) (from to : Place S) : Type 0 where
  pub count : ℕ
  pub few : count < rounds
  pub between : Place S
  pub turns : TurnsOften tells left faults most count from between
  pub overflows : Overflows tells left faults which.Every most between.feeds to.feeds between.sources to.sources between.state to.state
