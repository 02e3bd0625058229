-- Rounds of the sources behind a kept list, with no tick between them.
use Rattle.std.specs.Prelude.{◌≡◌, ℕ, zero, suc, ◌≤◌, Contains, List, [], ◌++◌}
use Rattle.entry_model.specs.declared.entry.Entry.{Entry}
use Rattle.session_model.specs.Given.{Given, Source}
use Rattle.session_model.specs.Taking.{TakesSteps}
use Rattle.replay_rounds.specs.Sources.{HadFullSteps, IsFull}

-- so many rounds, one after another, each of which takes one step of every source
abbrev pub TakesRounds : Given → List Entry → ℕ → List Entry → Type 0
TakesRounds given kept zero entries = entries ≡ []
TakesRounds given kept (suc count) entries =
    (own others : List Entry) × TakesSteps given kept given.sources own × TakesRounds given (kept ++ own) count others × (entries ≡ own ++ others)

-- There were rounds, and in the last of them some source gave a full step, as it did in each of them: `start` is the list before the session.
pub record HasMore (given : Given) (start kept : List Entry) (count : ℕ) (entries : List Entry) : Type 0 where
  pub earlier : ℕ
  pub count_is : count ≡ suc earlier
  pub before : List Entry
  pub last : List Entry
  pub are : entries ≡ before ++ last
  pub takes : TakesRounds given kept earlier before
  pub takes_last : TakesSteps given (kept ++ before) given.sources last
  pub source : Source
  pub among : Contains given.sources source
  pub full : IsFull given (kept ++ before) source
  pub each : 1 ≤ given.records → HadFullSteps given.config.categories given.records count start source
