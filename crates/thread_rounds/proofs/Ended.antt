-- The first job that is refused, as jobs are joined from the last one on.
use Rattle.std.proofs.Common.{◌≡◌, ℕ, ◌+◌, List, [], ◌∷◌, ◌++◌, length, All, refl, sym, ap, ap₂, ◌∙◌, append_assoc, append-nil, length-append, Option, None, Some, Result, Ok, Err}
use Rattle.std.proofs.lemmas.List.Elements.{All-cons, All-nil}
use Rattle.thread_jobs.specs.declared.error.JobError.{JobError}
use Rattle.thread_jobs.specs.declared.forking.Job.{Job}
use Rattle.thread_rounds.specs.Ends.{first_refused, refused_at}

-- where none is refused, each is done
pub all_done : (place : ℕ) (jobs : List Job) → first_refused place jobs ≡ None → All (λ (job : Job). job.end ≡ Ok tt) jobs
all_done place [] none = All-nil (λ (job : Job). job.end ≡ Ok tt)
all_done place (job ∷ jobs) none = by job.end refl none (all_done (place + 1) jobs)
  where
    by : (end : Result (Unit {0}) JobError) → job.end ≡ end → refused_at place end (first_refused (place + 1) jobs) ≡ None → (first_refused (place + 1) jobs ≡ None → All (λ (job : Job). job.end ≡ Ok tt) jobs)
        → All (λ (job : Job). job.end ≡ Ok tt) (job ∷ jobs)
    by (Ok done) is none rest = All-cons (λ (job : Job). job.end ≡ Ok tt) job jobs is (rest none)
    by (Err error) is none rest = absurd (let some : Some (place, error) ≡ None = none in cc)

-- Some of these jobs wait to be joined, and the others are joined; `refused` is the first of those that is refused.
pub record WasRefused (all rest : List Job) (refused : Option (ℕ × JobError)) : Type 0 where
  pub done : List Job
  pub are : all ≡ rest ++ done
  pub first : refused ≡ first_refused (length rest) done

abbrev pub refused_none : (all : List Job) → WasRefused all all None
refused_none all = record { done = []; are = sym (append-nil all); first = refl }

abbrev pub refused_one : (all old new : List Job) (job : Job) (was now : Option (ℕ × JobError)) (so : WasRefused all old was) → old ≡ new ++ job ∷ [] → now ≡ refused_at (length new) job.end was → WasRefused all new now
refused_one all old new job was now so popped is =
    let long : length old ≡ length new + 1 = ap (λ (l : List Job). length l) popped ∙ length-append new (job ∷ []) in
    record {
      done = job ∷ so.done;
      are = so.are ∙ ap (λ (l : List Job). l ++ so.done) popped ∙ append_assoc new (job ∷ []) so.done;
      first = is ∙ ap (λ (later : Option (ℕ × JobError)). refused_at (length new) job.end later) (so.first ∙ ap (λ (n : ℕ). first_refused n so.done) long);
    }

pub refused_all : (all rest : List Job) (refused : Option (ℕ × JobError)) → WasRefused all rest refused → rest ≡ [] → refused ≡ first_refused 0 all
refused_all all rest refused so none =
    so.first ∙ ap₂ (λ (n : ℕ) (l : List Job). first_refused n l) (ap (λ (l : List Job). length l) none) (ap (λ (l : List Job). l ++ so.done) (sym none) ∙ sym so.are)

pub done_are : (all rest : List Job) (refused : Option (ℕ × JobError)) (so : WasRefused all rest refused) → rest ≡ [] → so.done ≡ all
done_are all rest refused so none = ap (λ (l : List Job). l ++ so.done) (sym none) ∙ sym so.are
