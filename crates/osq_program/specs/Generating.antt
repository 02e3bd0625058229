-- What `generate` does.
use Rattle.std.specs.Prelude.{◌≡◌, ℕ, ◌++◌, take}
use Rattle.program_words.specs.declared.command.GenerateWords.{GenerateWords}
use Rattle.generated_changes.specs.Generated.{lines_of}
use Rattle.osq_program.specs.declared.status.Status.{Status}
use Rattle.osq_program.specs.declared.status.Status.TheVariants.{Ok as Done}
use Rattle.osq_program.specs.Answers.{Causes, IsCaused, IsDoneStatus, IsRefusal, IsSpentStatus, no_causes}
use Rattle.osq_program.specs.Observed.{Observed}

abbrev pub causes_of : Observed → Causes
causes_of seen = record no_causes { sink = seen.results_failed }

-- what each answer leaves in the results: the lines, or at a refusal a front part of them
abbrev pub GenerateLeaves : GenerateWords → Observed → Status → Type 0
GenerateLeaves w seen Done = seen.sink_tells → seen.results_after ≡ seen.results_before ++ lines_of w.from w.count
GenerateLeaves w seen _ = seen.sink_tells → (count : ℕ) × (seen.results_after ≡ seen.results_before ++ take count (lines_of w.from w.count))

pub record IsGenerate (w : GenerateWords) (seen : Observed) (status : Status) : Type 0 where
  pub leaves : GenerateLeaves w seen status
  pub quiet : IsDoneStatus status → seen.sink_tells → seen.status_after ≡ seen.status_before
  pub unspent : IsSpentStatus status → ⊥
  pub cause : IsRefusal status → IsCaused (causes_of seen) status
