-- What the status stream has of a run that doesn't end with Ok.
use Rattle.std.specs.Prelude.{◌≡◌, ◌⊎◌, ℕ, Bool, false, List, [], ◌++◌}
use Rattle.program_words.specs.declared.command.CheckWords.{CheckWords}
use Rattle.program_words.specs.declared.command.CollectWords.{CollectWords}
use Rattle.program_words.specs.declared.command.FleetWords.{FleetWords}
use Rattle.program_words.specs.declared.command.QueryWords.{QueryWords}
use Rattle.program_words.specs.declared.command.ReplayWords.{ReplayWords}
use Rattle.session_model.specs.Given.{Given}
use Rattle.session_model.specs.Orders.{Order}
use Rattle.replay_rounds.specs.Noting.{HasToldSome}
use Rattle.replay_rounds.specs.Stopping.{AreLoaded, AreNumbersOf, AreSealed}
use Rattle.replay_rounds.specs.declared.refused.Numbers.{Numbers}
use Rattle.osq_program.specs.declared.status.Status.{Status}
use Rattle.osq_program.specs.declared.status.Status.TheVariants.{Ok as Done, Usage, FilesFault, ConfigRefused, KeeperFault, KeeperRefused, SinkFault, TicksSpent, QueryRefused, OutOfMemory}
use Rattle.osq_program.specs.Answers.{IsRefusal, status_number}
use Rattle.osq_program.specs.Checking.{HasLines}
use Rattle.osq_program.specs.Observed.{Observed, link_faults}
use Rattle.osq_program.specs.Querying.{HasAnswer, IsPosed}
use Rattle.osq_program.specs.Replaying.{IsAccepted, IsReplayGiven, fixed, run_in}
use Rattle.osq_program.specs.Report.{Tells, final_line, refusal_line, unread_line}
use Rattle.osq_program.specs.Unconfigured.{IsFileOf}
use Rattle.osq_program.specs.Watching.{IsFileIn}

-- a command was begun, and doesn't end with Ok
abbrev pub EndsShort : Status → Type 0
EndsShort Done = ⊥
EndsShort Usage = ⊥
EndsShort status = Unit {0}

-- behind these lines the status stream has that of the status
abbrev pub TellsBehind : Observed → List ℕ → Status → Type 0
TellsBehind seen front status = seen.sink_tells → Tells seen.status_failed seen.status_before seen.status_after (front ++ refusal_line status)

-- `may` says which lines stand before that of a status: behind such it has that
pub record TellsSome (may : Status → List ℕ → Type 0) (seen : Observed) (status : Status) : Type 0 where
  pub front : List ℕ
  pub before : may status front
  pub behind : TellsBehind seen front status

pub record TellsEnd (may : Status → List ℕ → Type 0) (seen : Observed) (status : Status) : Type 0 where
  pub tells : EndsShort status → TellsSome may seen status

-- nothing stands before it
abbrev pub TellsAlone : Observed → Status → Type 0
TellsAlone seen status = TellsEnd (λ status front. front ≡ []) seen status

-- a file of these can't be read
abbrev pub TellsUnread : (List ℕ → Type 0) → List ℕ → Type 0
TellsUnread is_file front = (file : List ℕ) × is_file file × (front ≡ unread_line file)

-- the ledger's file of this path can't be read
abbrev pub MayTellOfLedger : List ℕ → Status → List ℕ → Type 0
MayTellOfLedger ledger FilesFault front = front ≡ unread_line ledger
MayTellOfLedger ledger status front = front ≡ []

abbrev pub TellsCollect : CollectWords → Observed → Status → Type 0
TellsCollect words seen status = TellsEnd (MayTellOfLedger words.ledger) seen status

abbrev pub TellsFleet : FleetWords → Observed → Status → Type 0
TellsFleet words seen status = TellsEnd (MayTellOfLedger words.ledger) seen status

-- before a fault of a sink there stands what a session would tell of the configuration
abbrev pub MayCheckTell : CheckWords → Observed → Status → List ℕ → Type 0
MayCheckTell w seen FilesFault front = TellsUnread (IsFileOf seen.files_tell seen.file w.config) front
MayCheckTell w seen SinkFault front = (lines : List ℕ) × HasLines w seen lines front
MayCheckTell w seen status front = front ≡ []

abbrev pub TellsCheck : CheckWords → Observed → Status → Type 0
TellsCheck w seen status = TellsEnd (MayCheckTell w seen) seen status

-- the lines of packs that are left out
abbrev pub ArePosed : QueryWords → Observed → List ℕ → Type 0
ArePosed words seen front = (posed : IsPosed words seen) × (front ≡ posed.watched.notes)

-- and behind them those of skipped lines
abbrev pub AreAnswered : QueryWords → Observed → Bool → List ℕ → Type 0
AreAnswered words seen is_end front = (has : HasAnswer words seen is_end) × (front ≡ has.posed.watched.notes ++ has.asked.skipped)

abbrev pub MayQueryTell : QueryWords → Observed → Status → List ℕ → Type 0
MayQueryTell words seen (QueryRefused place kind) front = front ≡ []
MayQueryTell words seen (ConfigRefused kind key) front = front ≡ []
MayQueryTell words seen FilesFault front = TellsUnread (IsFileIn seen.files_tell seen.file words.config) front
MayQueryTell words seen TicksSpent front = AreAnswered words seen false front
MayQueryTell words seen SinkFault front = ArePosed words seen front ⊎ ((is_end : Bool) × AreAnswered words seen is_end front)
MayQueryTell words seen OutOfMemory front = (front ≡ []) ⊎ (ArePosed words seen front ⊎ ((is_end : Bool) × AreAnswered words seen is_end front))
MayQueryTell words seen status front = ArePosed words seen front

abbrev pub TellsQuery : QueryWords → Observed → Status → Type 0
TellsQuery words seen status = TellsEnd (MayQueryTell words seen) seen status

-- a session that didn't begin
abbrev pub MayReplayTell : ReplayWords → Observed → Status → List ℕ → Type 0
MayReplayTell words seen (ConfigRefused kind key) front = front ≡ []
MayReplayTell words seen FilesFault front = TellsUnread (IsFileOf seen.files_tell seen.file words.config) front
MayReplayTell words seen KeeperFault front = IsAccepted words seen × (front ≡ [])
MayReplayTell words seen OutOfMemory front = front ≡ []
MayReplayTell words seen status front = ⊥

-- The clock wasn't read, since the kept list wasn't loaded, or there is no configuration. No final line is written.
pub record IsUnbegun (words : ReplayWords) (seen : Observed) (status : Status) : Type 0 where
  pub front : List ℕ
  pub may : MayReplayTell words seen status front
  pub unread : seen.has_read []
  pub told : TellsBehind seen front status

-- the numbers in the final line of each status: of the list as it was loaded, as it was before a seal that failed, or as it is
abbrev pub AreNumbersAt : Order → ReplayWords → Status → Observed → Given → Numbers → Type 0
AreNumbersAt order words KeeperRefused seen given numbers = AreLoaded (run_in order words seen given) seen.kept_after numbers
AreNumbersAt order words KeeperFault seen given numbers = AreSealed (run_in order words seen given) seen.kept_after numbers
AreNumbersAt order words status seen given numbers = AreNumbersOf (fixed order words seen given) seen.kept_after numbers

-- behind these lines there stand that of the status and the final line
abbrev pub EndsWhole : Order → ReplayWords → Observed → Given → Status → List ℕ → Type 0
EndsWhole order words seen given status between =
    (numbers : Numbers) × AreNumbersAt order words status seen given numbers × (seen.status_after ≡ between ++ (refusal_line status ++ final_line (status_number status) numbers (link_faults seen)))

-- or memory was wanting for them
abbrev pub EndsStarved : Observed → Status → List ℕ → Type 0
EndsStarved seen status between = (status ≡ OutOfMemory) × (seen.status_after ≡ between ++ refusal_line status)

-- The kept list was loaded. Behind what the session told the status stream ends with the final line; no clause says what it has behind a fault of
-- its own.
pub record IsEnded (order : Order) (words : ReplayWords) (seen : Observed) (status : Status) : Type 0 where
  pub given : Given
  pub is : IsReplayGiven words seen given
  pub told : seen.sink_tells → ((between : List ℕ) × HasToldSome (fixed order words seen given) seen.kept_after is.notes seen.status_before between × (EndsWhole order words seen given status between ⊎ EndsStarved seen status between)) ⊎ seen.status_failed

abbrev pub TellsReplay : Order → ReplayWords → Observed → Status → Type 0
TellsReplay order words seen status = IsRefusal status → IsUnbegun words seen status ⊎ IsEnded order words seen status
