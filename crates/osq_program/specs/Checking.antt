-- What `check` does.
use Rattle.std.specs.Prelude.{◌≡◌, ◌≢◌, ◌⊎◌, ℕ, Bool, true, List, [], ◌++◌, map, flat_map, take, Option, None, codes}
use Rattle.std.specs.Fmt.{decimal}
use Rattle.osq_config.specs.declared.config.Config.{Config}
use Rattle.osq_config.specs.declared.config.Pack.{Pack}
use Rattle.osq_config.specs.declared.error.ConfigError.{ConfigError}
use Rattle.osq_config.specs.declared.error.ConfigError.TheVariants.{NoMemory}
use Rattle.config_files.specs.Causes.{IsFaulty}
use Rattle.config_files.specs.Configurations.{IsConfigured}
use Rattle.config_files.specs.Naming.{key_of_error, kind_of_error}
use Rattle.pack_rules.specs.declared.host.Host.{Host}
use Rattle.pack_rules.specs.declared.schedule.Mode.{Mode}
use Rattle.pack_rules.specs.declared.schedule.Mode.TheVariants.{Evented, Snapshot}
use Rattle.pack_rules.specs.declared.schedule.Schedule.{Schedule}
use Rattle.pack_rules.specs.declared.schedule.Scheduled.{Scheduled}
use Rattle.pack_rules.specs.Schedules.{IsScheduleOf}
use Rattle.schedule_notes.specs.Notes.{AreNotes}
use Rattle.osq_program.specs.declared.status.Status.{Status}
use Rattle.osq_program.specs.declared.status.Status.TheVariants.{Ok as Done, ConfigRefused, OutOfMemory, SinkFault}
use Rattle.osq_program.specs.Answers.{Causes, IsCaused, IsSpentStatus, IsRefusal, no_causes}
use Rattle.program_words.specs.declared.command.CheckWords.{CheckWords}
use Rattle.osq_program.specs.Observed.{Observed}

abbrev pub mode_text : Mode → List ℕ
mode_text Evented = codes "evented"
mode_text Snapshot = codes "snapshot"

-- `NAME INTERVAL MODE`
abbrev pub query_line : Scheduled → List ℕ
query_line scheduled = scheduled.key.name ++ codes " " ++ decimal scheduled.interval ++ codes " " ++ mode_text scheduled.key.mode ++ codes "\n"

abbrev pub schedule_lines : List Scheduled → List ℕ
schedule_lines queries = flat_map query_line queries

-- the file's document has a fault, of this kind at this key
pub record IsFaultyBy (files_tell : Type 0) (file : List ℕ → Option (List ℕ)) (path kind key : List ℕ) : Type 0 where
  pub error : ConfigError
  pub faulty : IsFaulty files_tell file path error
  pub kind_is : kind ≡ kind_of_error error
  pub key_is : key ≡ key_of_error error

-- there is no such file, or its document has a fault
abbrev pub IsRefusedFor : (files_tell : Type 0) → (List ℕ → Option (List ℕ)) → List ℕ → List ℕ → List ℕ → Type 0
IsRefusedFor files_tell file path kind key = ((files_tell → file path ≡ None) × (kind ≡ codes "Missing") × (key ≡ [])) ⊎ IsFaultyBy files_tell file path kind key

-- the answer to a document with this error
abbrev pub Refuses : ConfigError → Status → Type 0
Refuses error (ConfigRefused kind key) = (error ≢ NoMemory) × (kind.now ≡ kind_of_error error) × (key ≡ key_of_error error)
Refuses error OutOfMemory = error ≡ NoMemory
Refuses error status = ⊥

abbrev pub checked_host : CheckWords → Host
checked_host w = record { identifier = w.host; platform = w.platform; agent = w.agent }

-- every pack counts as found
abbrev pub all_found : Config → List Bool
all_found config = map (λ (pack : Pack). true) config.packs

-- a line for each query of the schedule that the configuration gives the host
pub record IsListing (config : Config) (host : Host) (found : List Bool) (lines : List ℕ) : Type 0 where
  pub schedule : Schedule
  pub is : IsScheduleOf config host found schedule
  pub are : lines ≡ schedule_lines schedule.queries

-- the lines of a check: those of the schedule, and those that a session of it would tell of the configuration
pub record HasLines (w : CheckWords) (seen : Observed) (lines notes : List ℕ) : Type 0 where
  pub config : Config
  pub documents : List (List ℕ)
  pub left_out : List ℕ
  pub configured : IsConfigured seen.files_tell seen.file w.config config documents left_out
  pub listing : IsListing config (checked_host w) (all_found config) lines
  pub noted : AreNotes config (checked_host w) (all_found config) left_out notes

-- the causes of a check
abbrev pub causes_of : CheckWords → Observed → Causes
causes_of w seen =
    record no_causes {
      files = seen.files_failed;
      refused = IsRefusedFor seen.files_tell seen.file w.config;
      sink = seen.results_failed ⊎ seen.status_failed;
    }

-- What each answer leaves in the results and, where the check is done, on the status stream. At a fault of a sink the results have grown
-- by a front part of the lines, and at any other refusal they are as before.
abbrev pub CheckLeaves : CheckWords → Observed → Status → Type 0
CheckLeaves w seen Done = (lines notes : List ℕ) × HasLines w seen lines notes
    × (seen.sink_tells → (seen.results_after ≡ seen.results_before ++ lines) × (seen.status_after ≡ seen.status_before ++ notes))
CheckLeaves w seen SinkFault = (lines notes : List ℕ) × HasLines w seen lines notes
    × (seen.sink_tells → (count : ℕ) × (seen.results_after ≡ seen.results_before ++ take count lines))
CheckLeaves w seen _ = seen.sink_tells → seen.results_after ≡ seen.results_before

pub record IsCheck (w : CheckWords) (seen : Observed) (status : Status) : Type 0 where
  pub leaves : CheckLeaves w seen status
  pub unspent : IsSpentStatus status → ⊥
  pub cause : IsRefusal status → IsCaused (causes_of w seen) status
  pub kept : seen.keeper_tells → seen.kept_after ≡ seen.kept_before
