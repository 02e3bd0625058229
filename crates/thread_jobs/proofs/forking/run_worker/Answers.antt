use Rattle.std.proofs.Common.{refl, subst}
use Rattle.std.specs.Prelude.{OnOk}
use Rattle.session_state.specs.Kept.{Kept}
use Rattle.turn_lock.specs.Turns.{entries}
use Rattle.turn_lock.specs.Words.{number, seen}
use Rattle.thread_laws.specs.Reached.{NoneDue}
use Rattle.thread_jobs.specs.Working.{AnswersOf, BatchesSpent}
use Rattle.thread_jobs.proofs.Forked.{same_start}
use Rattle.thread_jobs.proofs.forking.run_worker.Goals as goal

pub work-job-requires-clause-seat : goal.work-job-requires-clause-seat
work-job-requires-clause-seat g c lifetimes outlive = (c.requires.of, c.requires.rest)

pub returns : goal.returns
returns g c = record {
  back = record { same = c.work-job.ensures.seat.0; rest = c.work-job.ensures.seat.1; who = refl };
  own = λ store of.
      subst (λ (start : Kept). AnswersOf start (number c.args.job.now.seat) (seen c.args.job.now.seat) (seen c.work-job.new.seat)) (same_start c.args.store.now store c.args.job.now.seat c.requires.of of) c.work-job.ensures.own;
  none = λ store of.
      subst (λ (start : Kept). OnOk c.work-job.result (NoneDue start (entries (seen c.work-job.new.seat)))) (same_start c.args.store.now store c.args.job.now.seat c.requires.of of) c.work-job.ensures.none;
  spent = λ store of is.
      subst (λ (start : Kept). BatchesSpent start (entries (seen c.work-job.new.seat))) (same_start c.args.store.now store c.args.job.now.seat c.requires.of of) (c.work-job.ensures.spent is);
  only = c.work-job.ensures.only;
}
