use Rattle.std.proofs.Common.{rules, List, ℕ, arith, refl, subst}
use Rattle.osq_outside.specs.Causes.{Rose}
use Rattle.batch_forwarder.specs.Polling.{IsMark}
use Rattle.batch_forwarder.proofs.Polled.{polled_more, polled_most, polled_none}
use Rattle.batch_forwarder.proofs.polling.poll_marks.Goals as goal

pub loop-init : goal.loop-init
loop-init g c =
    let waiting = g.L.Link.waiting c.args.link.now in
    record {
      polled = polled_none g.L.Link.tells c.args.host.now waiting c.args.forwarder.now c.args.marks.now;
      sent = search rules;
      later = omega arith;
    }

pub loop-preserved : goal.loop-preserved
loop-preserved g c =
    let i = c.loop.invariant in
    let waiting = g.L.Link.waiting in
    let on = c.poll.ensures.cause.later in
    let taken = c.in_ok-take_answer-in-Ok-Some.ensures.ok in
    record {
      polled =
          polled_more g.L.Link.tells c.args.host.now (waiting c.args.link.now) (waiting c.loop.link) c.args.forwarder.now c.loop.forwarder c.args.marks.now c.loop.marks c.loop.counter i.polled (waiting c.poll.new.self)
          c.loop-test.true c.in-Ok-Some.line (λ told. rw c.in-Ok-Some.field-0-is at (c.in-Ok-Some.ensures.first told))
          taken.0 (subst (λ (line : List ℕ). IsMark c.args.host.now line taken.0) c.as_slice.ensures taken.1) c.take_answer.new.forwarder c.take_answer.new.marks taken.2;
      sent = search rules;
      later = (let before = i.later in omega (arith, before, on));
    }

pub returns-clause-ok : goal.returns-clause-ok
returns-clause-ok g c =
    let spent = c.loop-test.false in
    let within = c.loop.auto.counter-end in
    let waiting = g.L.Link.waiting in
    polled_most g.L.Link.tells c.args.host.now (waiting c.args.link.now) (waiting c.loop.link) c.args.forwarder.now c.loop.forwarder c.args.marks.now c.loop.marks c.loop.counter c.loop.invariant.polled (waiting c.loop.link)
    (Rose (g.L.Link.faults c.args.link.now) (g.L.Link.faults c.loop.link)) (λ told. refl) (omega (arith, spent, within))
