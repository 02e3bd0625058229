-- What `collect` does.
use Rattle.std.specs.Prelude.{◌≡◌, ◌⊎◌, ℕ, Bool, true, false, List, [], ◌∷◌, unwrap_or, Result, Ok, Err}
use Rattle.osq_value.specs.declared.source.SourceName.{SourceName}
use Rattle.program_words.specs.declared.command.CollectWords.{CollectWords}
use Rattle.collector_core.specs.Received.{HostDigests}
use Rattle.collector_ledger.specs.Files.{IsLedgerOf, has_rest}
use Rattle.collect_rounds.specs.declared.error.CollectError.{CollectError}
use Rattle.collect_rounds.specs.declared.error.CollectError.TheVariants as stop
use Rattle.collect_rounds.specs.Runs.{Runs, Written}
use Rattle.osq_program.specs.declared.status.Status.{Status}
use Rattle.osq_program.specs.declared.status.Status.TheVariants.{Ok as Done, FilesFault, SourceFault, SinkFault, TicksSpent, OutOfMemory}
use Rattle.osq_program.specs.Answers.{Causes, IsCaused, IsDoneStatus, IsRefusal, no_causes}
use Rattle.osq_program.specs.Ending.{NamesSource}
use Rattle.osq_program.specs.Observed.{Observed}
use Rattle.osq_program.specs.Reasons.{HasFailed}

-- the stream of frames
abbrev pub stream : List (List ℕ) → List ℕ
stream [] = []
stream (bytes ∷ others) = bytes

-- what the ledger's file holds; nothing where there is none
abbrev pub file_in : CollectWords → Observed → List ℕ
file_in words seen = unwrap_or (seen.file words.ledger) []

abbrev pub before : Observed → Written
before seen = record { ledger = seen.ledger_before; answers = seen.results_before }

abbrev pub after : Observed → Written
after seen = record { ledger = seen.ledger_after; answers = seen.results_after }

-- from the file's ledger on, the stream was collected, with this end
pub record HasRun (words : CollectWords) (seen : Observed) (ended : Result Bool CollectError) : Type 0 where
  pub recorded : HostDigests
  pub rest : Bool
  pub ledger : seen.files_tell → IsLedgerOf (file_in words seen) recorded × (rest ≡ has_rest (file_in words seen))
  pub runs : seen.source_tells → seen.sink_tells → Runs recorded rest (stream seen.all_bytes) (stream seen.rest_bytes) words.ticks (before seen) (after seen) ended

-- nothing was written but status lines
abbrev pub IsUnwritten : Observed → Type 0
IsUnwritten seen = seen.sink_tells → (seen.results_after ≡ seen.results_before) × (seen.ledger_after ≡ seen.ledger_before)

-- the answer to a collector that stopped so
abbrev pub IsStoppedBy : List SourceName → CollectError → Status → Type 0
IsStoppedBy sources stop.SourceFault status = NamesSource sources 0 (λ name. SourceFault name) status
IsStoppedBy sources stop.SinkFault status = status ≡ SinkFault
IsStoppedBy sources stop.NoMemory status = status ≡ OutOfMemory

abbrev pub CollectLeaves : CollectWords → Observed → Status → Type 0
CollectLeaves words seen Done = HasRun words seen (Ok true)
CollectLeaves words seen TicksSpent = HasRun words seen (Ok false)
CollectLeaves words seen OutOfMemory = IsUnwritten seen ⊎ ((error : CollectError) × HasRun words seen (Err error))
CollectLeaves words seen (SourceFault name) = HasRun words seen (Err stop.SourceFault)
CollectLeaves words seen SinkFault = HasRun words seen (Err stop.SinkFault)
CollectLeaves words seen FilesFault = IsUnwritten seen
CollectLeaves words seen _ = ⊥

abbrev pub causes_of : CollectWords → Observed → Causes
causes_of words seen =
    record no_causes {
      files = seen.files_failed;
      source = HasFailed words.sources seen;
      sink = seen.ledger_failed ⊎ seen.results_failed;
    }

pub record IsCollect (words : CollectWords) (seen : Observed) (status : Status) : Type 0 where
  pub leaves : CollectLeaves words seen status
  pub quiet : IsDoneStatus status → seen.sink_tells → seen.status_after ≡ seen.status_before
  pub cause : IsRefusal status → IsCaused (causes_of words seen) status
  pub kept : seen.keeper_tells → seen.kept_after ≡ seen.kept_before
