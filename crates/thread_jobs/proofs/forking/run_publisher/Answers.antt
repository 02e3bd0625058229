use Rattle.std.proofs.Common.{refl, subst}
use Rattle.session_state.specs.Kept.{Kept}
use Rattle.turn_lock.specs.Words.{number, seen}
use Rattle.thread_jobs.specs.Publishing.{HasTooMuch}
use Rattle.thread_jobs.proofs.Forked.{same_start}
use Rattle.thread_jobs.proofs.forking.run_publisher.Goals as goal

pub publish-job-requires-clause-seat : goal.publish-job-requires-clause-seat
publish-job-requires-clause-seat g c lifetimes outlive = (c.requires.may.of, c.requires.may.rest)

pub publish-job-requires-clause-going : goal.publish-job-requires-clause-going
publish-job-requires-clause-going g c lifetimes outlive = c.requires.going

pub returns : goal.returns
returns g c = record {
  back = record { same = c.publish-job.ensures.seat.0; rest = c.publish-job.ensures.seat.1; who = refl };
  name = c.publish-job.ensures.same.0;
  kind = c.publish-job.ensures.same.1;
  counts = c.publish-job.ensures.counts;
  part = c.publish-job.ensures.part;
  unread = c.publish-job.ensures.unread;
  taken = c.publish-job.ensures.published;
  intruded = c.publish-job.ensures.intruded;
  spent = λ store of is.
      subst (λ (start : Kept). HasTooMuch g.S.Source.tells (g.S.Source.left c.args.source.now) (g.S.Source.left c.publish-job.new.source) c.args.terms.now.most start (number c.args.job.now.seat) (seen c.args.job.now.seat) (seen c.publish-job.new.seat) c.args.feed.now c.publish-job.new.feed)
      (same_start c.args.store.now store c.args.job.now.seat c.requires.may.of of) (c.publish-job.ensures.spent is);
  cause = c.publish-job.ensures.cause;
}
