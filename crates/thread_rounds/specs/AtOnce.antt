-- How a round of the sources and of workers ends by its step.
use Rattle.std.specs.Prelude.{Result, Ok, Err}
use Rattle.daemon_rounds.specs.declared.error.TakeError.{TakeError}
use Rattle.daemon_rounds.specs.declared.error.TakeError.TheVariants as take
use Rattle.thread_rounds.specs.declared.error.StepRefusal.{StepRefusal}
use Rattle.thread_rounds.specs.declared.error.StepRefusal.TheVariants as step

-- why a round isn't done whose step is refused
abbrev pub untaken_by : StepRefusal → TakeError
untaken_by (step.SourceFault place) = take.SourceFault place
untaken_by step.NumbersSpent = take.NumbersSpent
untaken_by step.NoMemory = take.NoMemory

-- how it ends, where its step ended so
abbrev pub taken_by : Result (Unit {0}) StepRefusal → Result (Unit {0}) TakeError
taken_by (Ok done) = Ok done
taken_by (Err refusal) = Err (untaken_by refusal)
