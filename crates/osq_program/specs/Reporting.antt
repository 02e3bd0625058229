-- What `report` does.
use Rattle.std.specs.Prelude.{◌≡◌, ℕ, List, ◌++◌, take}
use Rattle.entry_model.specs.declared.entry.Entry.{Entry}
use Rattle.entry_model.specs.declared.restored.Restored.{Restored}
use Rattle.entry_model.specs.Fits.{Fits}
use Rattle.entry_model.specs.Legal.{Legal}
use Rattle.entry_model.specs.Summary.{summary}
use Rattle.kept_report.specs.Reports.{IsReport}
use Rattle.osq_program.specs.declared.status.Status.{Status}
use Rattle.osq_program.specs.declared.status.Status.TheVariants.{Ok as Done, SinkFault}
use Rattle.osq_program.specs.Answers.{Causes, IsCaused, IsDoneStatus, IsRefusal, IsSpentStatus, no_causes}
use Rattle.osq_program.specs.Observed.{Observed}

-- The text tells values that a session may go on from, which are those of this list where the keeper tells it.
pub record HasReport (tells : Type 0) (kept : List Entry) (text : List ℕ) : Type 0 where
  pub values : Restored
  pub fit : Fits values
  pub are : tells → values ≡ summary kept
  pub report : IsReport values text

-- why values aren't loaded
abbrev pub loading_causes : Type 0 → List Entry → Type 0 → Causes
loading_causes tells kept failed = record no_causes { keeper = failed; unfit = tells → (¬ Legal kept) × (¬ Fits (summary kept)) }

abbrev pub causes_of : Observed → Causes
causes_of seen = record (loading_causes seen.keeper_tells seen.kept_before seen.keeper_failed) { sink = seen.results_failed }

-- what each answer leaves in the results: the text, at a fault of theirs a front part of it, and at any other refusal nothing
abbrev pub ReportLeaves : Observed → Status → Type 0
ReportLeaves seen Done = (text : List ℕ) × HasReport seen.keeper_tells seen.kept_before text × (seen.sink_tells → seen.results_after ≡ seen.results_before ++ text)
ReportLeaves seen SinkFault = (text : List ℕ) × HasReport seen.keeper_tells seen.kept_before text
    × (seen.sink_tells → (count : ℕ) × (seen.results_after ≡ seen.results_before ++ take count text))
ReportLeaves seen _ = seen.sink_tells → seen.results_after ≡ seen.results_before

pub record IsShown (seen : Observed) (status : Status) : Type 0 where
  pub leaves : ReportLeaves seen status
  pub quiet : IsDoneStatus status → seen.sink_tells → seen.status_after ≡ seen.status_before
  pub unspent : IsSpentStatus status → ⊥
  pub cause : IsRefusal status → IsCaused (causes_of seen) status
  pub kept : seen.keeper_tells → seen.kept_after ≡ seen.kept_before
