-- How a session that ended before its last tick was done is answered.
use Rattle.std.specs.Prelude.{◌≡◌, ◌⊎◌, ℕ, List, Some, slice_get}
use Rattle.osq_value.specs.declared.source.SourceName.{SourceName}
use Rattle.replay_rounds.specs.declared.refused.RunError.{RunError}
use Rattle.replay_rounds.specs.declared.refused.RunError.TheVariants as running
use Rattle.query_rounds.specs.declared.error.AskError.{AskError}
use Rattle.query_rounds.specs.declared.error.AskError.TheVariants as asking
use Rattle.osq_program.specs.declared.status.Status.{Status}
use Rattle.osq_program.specs.declared.status.Status.TheVariants.{KeeperFault, KeeperRefused, MomentTooLarge, SourceFault, SourceShrank, NumbersSpent, SinkFault, OutOfMemory}

-- the source at this place has this name
pub record IsNamedAt (sources : List SourceName) (place : ℕ) (name : List ℕ) : Type 0 where
  pub source : SourceName
  pub there : slice_get sources place ≡ Some source
  pub name_is : name ≡ source.name

-- the answer names the source at this place, or memory was wanting for the name
abbrev pub NamesSource : List SourceName → ℕ → (List ℕ → Status) → Status → Type 0
NamesSource sources place named status = (status ≡ OutOfMemory) ⊎ ((name : List ℕ) × IsNamedAt sources place name × (status ≡ named name))

abbrev pub IsAnswerTo : List SourceName → RunError → Status → Type 0
IsAnswerTo sources running.KeeperFault status = status ≡ KeeperFault
IsAnswerTo sources running.KeeperRefused status = status ≡ KeeperRefused
IsAnswerTo sources (running.MomentTooLarge moment) status = status ≡ MomentTooLarge moment
IsAnswerTo sources (running.SourceFault place) status = NamesSource sources place (λ name. SourceFault name) status
IsAnswerTo sources (running.SourceShrank place kept found) status = NamesSource sources place (λ name. SourceShrank name kept found) status
IsAnswerTo sources running.NumbersSpent status = status ≡ NumbersSpent
IsAnswerTo sources running.SinkFault status = status ≡ SinkFault
IsAnswerTo sources running.NoMemory status = status ≡ OutOfMemory

-- a question ends for the same reason as a session
abbrev pub ended_by : AskError → RunError
ended_by asking.KeeperFault = running.KeeperFault
ended_by asking.KeeperRefused = running.KeeperRefused
ended_by (asking.MomentTooLarge moment) = running.MomentTooLarge moment
ended_by (asking.SourceFault place) = running.SourceFault place
ended_by (asking.SourceShrank place kept found) = running.SourceShrank place kept found
ended_by asking.NumbersSpent = running.NumbersSpent
ended_by asking.NoMemory = running.NoMemory
