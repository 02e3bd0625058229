use Rattle.shared_store.specs.Words.{start_of}
use Rattle.turn_lock.specs.Words.{number, seen}
use Rattle.thread_jobs.proofs.Answered.{answers_none, answers_then}
use Rattle.thread_jobs.proofs.Owning.{same_self, same_then}
use Rattle.thread_jobs.proofs.working.answer_each.Goals as goal

pub loop-init : goal.loop-init
loop-init g c =
    let seat = c.args.seat.now in
    (same_self seat, c.requires.seat.1, answers_none (start_of c.args.store.now) (number seat) (seen seat))

pub loop-preserved : goal.loop-preserved
loop-preserved g c =
    let before = c.loop.invariant in (
      same_then c.args.seat.now c.loop.seat c.answer_next.new.seat before.0 c.answer_next.ensures.seat.0,
      c.answer_next.ensures.seat.1,
      answers_then (start_of c.args.store.now) c.args.seat.now c.answer_next.new.seat c.loop.seat before.0 before.2 c.answer_next.ensures.own,
    )

pub returns-then-not-branch-clause-seat : goal.returns-then-not-branch-clause-seat
returns-then-not-branch-clause-seat g c =
    (same_then c.args.seat.now c.loop.seat c.answer_next.new.seat c.loop.invariant.0 c.answer_next.ensures.seat.0, c.answer_next.ensures.seat.1)

pub returns-then-not-branch-clause-own : goal.returns-then-not-branch-clause-own
returns-then-not-branch-clause-own g c =
    answers_then (start_of c.args.store.now) c.args.seat.now c.answer_next.new.seat c.loop.seat c.loop.invariant.0 c.loop.invariant.2 c.answer_next.ensures.own

pub returns-in_err-answer_next-clause-seat : goal.returns-in_err-answer_next-clause-seat
returns-in_err-answer_next-clause-seat g c =
    (same_then c.args.seat.now c.loop.seat c.answer_next.new.seat c.loop.invariant.0 c.answer_next.ensures.seat.0, c.answer_next.ensures.seat.1)

pub returns-in_err-answer_next-clause-own : goal.returns-in_err-answer_next-clause-own
returns-in_err-answer_next-clause-own g c =
    answers_then (start_of c.args.store.now) c.args.seat.now c.answer_next.new.seat c.loop.seat c.loop.invariant.0 c.loop.invariant.2 c.answer_next.ensures.own
