-- How the jobs of a step end.
use Rattle.std.specs.Prelude.{ℕ, ◌+◌, List, [], ◌∷◌, Option, None, Some, Result, Ok, Err}
use Rattle.thread_jobs.specs.declared.error.JobError.{JobError}
use Rattle.thread_jobs.specs.declared.error.JobError.TheVariants as job
use Rattle.thread_jobs.specs.declared.forking.Job.{Job}
use Rattle.thread_rounds.specs.declared.error.StepRefusal.{StepRefusal}
use Rattle.thread_rounds.specs.declared.error.StepRefusal.TheVariants as step

abbrev pub refused_at : ℕ → Result (Unit {0}) JobError → Option (ℕ × JobError) → Option (ℕ × JobError)
refused_at place (Ok done) later = later
refused_at place (Err error) later = Some (place, error)

-- the first of these jobs that is refused, with its place, where the first of them all has this place
abbrev pub first_refused : ℕ → List Job → Option (ℕ × JobError)
first_refused place [] = None
first_refused place (job ∷ jobs) = refused_at place job.end (first_refused (place + 1) jobs)

-- how the step ends then; no job is refused as intruded on
abbrev pub ended_by : Option (ℕ × JobError) → Result (Unit {0}) StepRefusal
ended_by None = Ok tt
ended_by (Some (place, job.SourceFault)) = Err (step.SourceFault place)
ended_by (Some (place, job.NumbersSpent)) = Err step.NumbersSpent
ended_by (Some (place, job.Intruded)) = Err step.NoMemory
ended_by (Some (place, job.NoMemory)) = Err step.NoMemory
