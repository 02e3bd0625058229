use Rattle.std.proofs.Common.{Err, ap, ◌∙◌}
use Rattle.shared_store.specs.Words.{start_of}
use Rattle.thread_jobs.proofs.Answered.{answers_commit, answers_refused}
use Rattle.thread_jobs.proofs.Worked.{spent_at, spent_behind}
use Rattle.thread_jobs.proofs.working.commit.Goals as goal

pub returns-in-Ok-clause-own : goal.returns-in-Ok-clause-own
returns-in-Ok-clause-own g c =
    answers_commit (start_of c.args.store.now) c.args.seat.now c.commit.new.seat c.args.cut c.args.rows c.commit.result c.requires.given c.requires.rows c.commit.ensures.turn

pub returns-in-Err-Superseded-clause-own : goal.returns-in-Err-Superseded-clause-own
returns-in-Err-Superseded-clause-own g c =
    answers_refused (start_of c.args.store.now) c.args.seat.now c.release.new.seat c.commit.new.seat c.args.cut c.in-Err-Superseded.cut c.args.rows c.commit.result c.requires.given c.requires.rows c.commit.ensures.seat.0 c.commit.ensures.turn c.release.ensures.turn

pub returns-in-Err-Stale-clause-own : goal.returns-in-Err-Stale-clause-own
returns-in-Err-Stale-clause-own g c =
    answers_refused (start_of c.args.store.now) c.args.seat.now c.release-in-Err-Stale.new.seat c.commit.new.seat c.args.cut c.in-Err-Stale.cut c.args.rows c.commit.result c.requires.given c.requires.rows c.commit.ensures.seat.0 c.commit.ensures.turn c.release-in-Err-Stale.ensures.turn

pub returns-in-Err-NumbersSpent-clause-own : goal.returns-in-Err-NumbersSpent-clause-own
returns-in-Err-NumbersSpent-clause-own g c =
    answers_refused (start_of c.args.store.now) c.args.seat.now c.release-in-Err-NumbersSpent.new.seat c.commit.new.seat c.args.cut c.in-Err-NumbersSpent.cut c.args.rows c.commit.result c.requires.given c.requires.rows c.commit.ensures.seat.0 c.commit.ensures.turn c.release-in-Err-NumbersSpent.ensures.turn

pub returns-in-Err-NumbersSpent-clause-spent : goal.returns-in-Err-NumbersSpent-clause-spent
returns-in-Err-NumbersSpent-clause-spent g c is =
    spent_behind (start_of c.args.store.now) c.commit.new.seat c.release-in-Err-NumbersSpent.new.seat c.in-Err-NumbersSpent.cut c.release-in-Err-NumbersSpent.ensures.turn
    (spent_at (start_of c.args.store.now) c.args.seat.now c.commit.new.seat c.args.cut c.in-Err-NumbersSpent.cut c.args.rows c.commit.result (c.in-Err-NumbersSpent.is ∙ ap Err c.in-Err-NumbersSpent.field-0-is) c.commit.ensures.turn)
