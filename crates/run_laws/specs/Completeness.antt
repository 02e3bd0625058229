-- The law of completeness.
use Rattle.program_words.specs.declared.command.CommandWords.{CommandWords}
use Rattle.program_words.specs.Bounds.{IsBounded}
use Rattle.osq_program.specs.declared.status.Status.{Status}
use Rattle.osq_program.specs.declared.status.Status.TheVariants.{Ok as Done, OutOfMemory}
use Rattle.osq_program.specs.Answers.{IsUsageStatus}
use Rattle.osq_program.specs.Doing.{MeetsCommand}
use Rattle.osq_program.specs.Observed.{Observed}
use Rattle.run_laws.specs.Ready.{IsReady, NoneFails}

-- the run answers Ok, or memory was wanting
abbrev pub IsComplete : Status → Type 0
IsComplete Done = Unit {0}
IsComplete OutOfMemory = Unit {0}
IsComplete status = ⊥

-- Whatever words a run is of and whatever is observed of it: where it does what its words say, they are those of a command, nothing fails, and
-- what the outside holds is in order, it is complete.
abbrev pub Completes : {W : Type 0} → (W → W → Observed) → Type 0
Completes {W} observed =
    (command : CommandWords) (old new : W) (status : Status) → IsBounded command → MeetsCommand command (observed old new) status → ¬ IsUsageStatus status → NoneFails (observed old new) → IsReady command (observed old new) → IsComplete status
