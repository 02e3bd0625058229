-- What must hold of the outside for a run of each command to answer Ok.
use Rattle.std.specs.Prelude.{◌≡◌, ℕ, ◌+◌, ◌/◌, ◌≤◌, Bool, true, false, All, List, length, None}
use Rattle.osq_value.specs.declared.moment.TheConstants.{LAST_MOMENT}
use Rattle.osq_config.specs.declared.config.Config.{Config}
use Rattle.batch_frames.specs.declared.frame.Frame.{Frame}
use Rattle.collector_ledger.specs.Frames.{AreRecorded}
use Rattle.config_files.specs.Configurations.{IsConfigured}
use Rattle.fleet_query.specs.Tables.{fleet_derived}
use Rattle.entry_model.specs.declared.entry.Entry.{Entry}
use Rattle.entry_model.specs.Legal.{Legal}
use Rattle.entry_model.specs.Values.{taken_from}
use Rattle.program_words.specs.declared.command.CheckWords.{CheckWords}
use Rattle.program_words.specs.declared.command.CollectWords.{CollectWords}
use Rattle.program_words.specs.declared.command.CommandWords.{CommandWords}
use Rattle.program_words.specs.declared.command.CommandWords.TheVariants.{Replay as AsksReplay, Daemon as AsksDaemon, Query as AsksQuery, Check as AsksCheck, Collect as AsksCollect, Generate as AsksGenerate, SelfTest as AsksSelfTest, Report as AsksReport, Fleet as AsksFleet}
use Rattle.program_words.specs.declared.command.FleetWords.{FleetWords}
use Rattle.program_words.specs.declared.command.QueryWords.{QueryWords}
use Rattle.program_words.specs.declared.command.ReplayWords.{ReplayWords}
use Rattle.osq_value.specs.declared.source.SourceName.{SourceName}
use Rattle.sql_texts.specs.TextFaults.{text_fault, text_fault_with}
use Rattle.session_model.specs.Given.{Given, Source}
use Rattle.session_model.specs.Orders.{Order, in_turn, at_once}
use Rattle.replay_rounds.specs.Spent.{RanOutOfNumbers}
use Rattle.run_laws.specs.Enough.{AreEnough}
use Rattle.query_rounds.specs.Asking.{Spends}
use Rattle.record_lines.specs.Limits.{STEP_BYTES}
use Rattle.osq_program.specs.Collecting.{stream}
use Rattle.osq_program.specs.Fleets.{file_in}
use Rattle.osq_program.specs.Observed.{Observed}
use Rattle.osq_program.specs.Querying.{IsPosed, IsQueryGiven}
use Rattle.osq_program.specs.Replaying.{IsAccepted, IsReplayGiven, run_in}
use Rattle.osq_program.specs.Setups.{sources_named}

-- no count of an object of the outside rises; that of the link is no matter
pub record NoneFails (seen : Observed) : Type 0 where
  pub files : ¬ seen.files_failed
  pub keeper : ¬ seen.keeper_failed
  pub sources : (place : ℕ) → ¬ seen.failed_at place
  pub results : ¬ seen.results_failed
  pub status : ¬ seen.status_failed
  pub ledger : ¬ seen.ledger_failed

-- the source has at least the bytes that are kept of it
abbrev pub IsThere : List Entry → Source → Type 0
IsThere kept source = taken_from kept source.name ≤ length source.bytes

-- The kept list is legal, and each source has at least the bytes that are kept of it; and so many steps of so many records are enough to read each source
-- to its end.
pub record AreReady (seen : Observed) (names : List SourceName) (records steps : ℕ) : Type 0 where
  pub keeper_tells : seen.keeper_tells
  pub source_tells : seen.source_tells
  pub legal : Legal seen.kept_before
  pub there : All (IsThere seen.kept_before) (sources_named names seen.all_bytes)
  pub enough : All (AreEnough records seen.kept_before steps) (sources_named names seen.all_bytes)

-- a session, in this order of its ticks: the configuration is accepted, no reading of the clock is too late, and no number is spent
pub record IsReplayReady (order : Order) (words : ReplayWords) (seen : Observed) : Type 0 where
  pub files_tell : seen.files_tell
  pub accepted : IsAccepted words seen
  pub ready : AreReady seen words.sources words.records words.ticks
  pub early : (readings : List ℕ) → seen.has_read readings → All (λ (reading : ℕ). reading ≤ LAST_MOMENT) readings
  pub numbers : (given : Given) → IsReplayGiven words seen given → ¬ RanOutOfNumbers (run_in order words seen given) seen.kept_after

-- a question: so are its text and the configuration that it names, if it names one
pub record IsQueryReady (words : QueryWords) (seen : Observed) : Type 0 where
  pub files_tell : seen.files_tell
  pub accepted : IsPosed words seen
  pub ready : AreReady seen words.sources words.records words.ticks
  pub early : (reading : ℕ) → seen.reads reading → reading ≤ LAST_MOMENT
  pub numbers : (posed : IsPosed words seen) (given : Given) → IsQueryGiven words seen posed given → ¬ Spends given seen.kept_before words.ticks

abbrev pub IsAskReady : Bool → QueryWords → Observed → Type 0
IsAskReady true words seen = text_fault words.text ≡ None
IsAskReady false words seen = IsQueryReady words seen

-- a check: the configuration is accepted
pub record IsCheckReady (words : CheckWords) (seen : Observed) : Type 0 where
  pub files_tell : seen.files_tell
  pub config : Config
  pub documents : List (List ℕ)
  pub notes : List ℕ
  pub accepted : IsConfigured seen.files_tell seen.file words.config config documents notes

-- a collector: each round reads so many bytes of the stream
pub record IsCollectReady (words : CollectWords) (seen : Observed) : Type 0 where
  pub source_tells : seen.source_tells
  pub sink_tells : seen.sink_tells
  pub enough : length (stream seen.all_bytes) / STEP_BYTES + 1 ≤ words.ticks

-- a report: the kept list is legal
pub record IsReportReady (seen : Observed) : Type 0 where
  pub keeper_tells : seen.keeper_tells
  pub legal : Legal seen.kept_before

-- a question to a ledger: over the tables of the frames that its file records of the host the text has no fault
pub record IsFleetReady (words : FleetWords) (seen : Observed) : Type 0 where
  pub files_tell : seen.files_tell
  pub accepted : (frames : List Frame) → AreRecorded (file_in words seen) words.host frames → text_fault_with (fleet_derived frames) words.text ≡ None

abbrev pub IsReady : CommandWords → Observed → Type 0
IsReady (AsksReplay words) seen = IsReplayReady in_turn words seen
IsReady (AsksDaemon words) seen = IsReplayReady at_once words.run seen
IsReady (AsksQuery words) seen = IsAskReady words.explain words seen
IsReady (AsksCheck words) seen = IsCheckReady words seen
IsReady (AsksCollect words) seen = IsCollectReady words seen
IsReady (AsksGenerate words) seen = Unit {0}
IsReady (AsksSelfTest words) seen = Unit {0}
IsReady (AsksReport words) seen = IsReportReady seen
IsReady (AsksFleet words) seen = IsFleetReady words seen
