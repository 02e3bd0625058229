-- What `fleet` does.
use Rattle.std.specs.Prelude.{◌≡◌, ℕ, List, [], ◌++◌, take, unwrap_or, None, Some}
use Rattle.batch_frames.specs.declared.frame.Frame.{Frame}
use Rattle.collector_ledger.specs.Frames.{AreRecorded}
use Rattle.fleet_query.specs.Tables.{fleet_derived, fleet_view}
use Rattle.program_words.specs.declared.command.FleetWords.{FleetWords}
use Rattle.sql_meaning.specs.Meaning.{meaning_of}
use Rattle.sql_query.specs.Answers.{result_names}
use Rattle.sql_query.specs.Resolved.{QueryTree}
use Rattle.sql_texts.specs.TextFaults.{text_fault_with}
use Rattle.sql_texts.specs.Texts.{query_with_in}
use Rattle.osq_program.specs.declared.status.Status.{Status}
use Rattle.osq_program.specs.declared.status.Status.TheVariants.{Ok as Done, SinkFault}
use Rattle.osq_program.specs.Answers.{Causes, IsCaused, IsDoneStatus, IsRefusal, IsSpentStatus, no_causes}
use Rattle.osq_program.specs.Observed.{Observed}
use Rattle.osq_program.specs.Querying.{IsRefusedOver, row_lines}

-- what the ledger's file holds; nothing where there is none
abbrev pub file_in : FleetWords → Observed → List ℕ
file_in words seen = unwrap_or (seen.file words.ledger) []

-- the file records these frames of the host
abbrev pub AreOfHost : FleetWords → Observed → List Frame → Type 0
AreOfHost words seen frames = seen.files_tell → AreRecorded (file_in words seen) words.host frames

-- a line for each row that the text means over the tables of these frames
pub record ShowsRows (frames : List Frame) (text lines : List ℕ) : Type 0 where
  pub accepted : text_fault_with (fleet_derived frames) text ≡ None
  pub query : QueryTree
  pub read : query_with_in (fleet_derived frames) text ≡ Some query
  pub are : lines ≡ row_lines (result_names query) (meaning_of query (fleet_view frames))

-- these lines answer the words, over the frames that the file records of the host
pub record HasFleetAnswer (words : FleetWords) (seen : Observed) (lines : List ℕ) : Type 0 where
  pub frames : List Frame
  pub are : AreOfHost words seen frames
  pub shows : ShowsRows frames words.text lines

-- over the tables of the frames that the file records of the host the text is no query, by a fault at this place and of this kind
abbrev pub IsRefusedFrom : FleetWords → Observed → ℕ → List ℕ → Type 0
IsRefusedFrom words seen place kind =
    (frames : List Frame) × AreOfHost words seen frames × IsRefusedOver (fleet_derived frames) words.text place kind

-- The causes. A text is refused by the tables of a file that was read, and a sink fails behind a text that was accepted.
abbrev pub causes_of : FleetWords → Observed → Causes
causes_of words seen =
    record no_causes {
      files = seen.files_failed;
      query = IsRefusedFrom words seen;
      sink = (lines : List ℕ) × HasFleetAnswer words seen lines × seen.results_failed;
    }

-- what each answer leaves in the results: the lines, at a fault of theirs a front part of them, and at any other refusal nothing
abbrev pub FleetLeaves : FleetWords → Observed → Status → Type 0
FleetLeaves words seen Done = (lines : List ℕ) × HasFleetAnswer words seen lines × (seen.sink_tells → seen.results_after ≡ seen.results_before ++ lines)
FleetLeaves words seen SinkFault = (lines : List ℕ) × HasFleetAnswer words seen lines
    × (seen.sink_tells → (count : ℕ) × (seen.results_after ≡ seen.results_before ++ take count lines))
FleetLeaves words seen _ = seen.sink_tells → seen.results_after ≡ seen.results_before

pub record IsFleet (words : FleetWords) (seen : Observed) (status : Status) : Type 0 where
  pub leaves : FleetLeaves words seen status
  pub quiet : IsDoneStatus status → seen.sink_tells → seen.status_after ≡ seen.status_before
  pub unspent : IsSpentStatus status → ⊥
  pub cause : IsRefusal status → IsCaused (causes_of words seen) status
  pub kept : seen.keeper_tells → seen.kept_after ≡ seen.kept_before
