use Rattle.std.proofs.Common.{◌≡◌, ◌+◌, ◌++◌, Bool, true, false, List, sym, ap, ◌∙◌, subst, inl, arith}
use Rattle.osq_outside.specs.Causes.{Rose}
use Rattle.entry_model.specs.declared.entry.Entry.{Entry}
use Rattle.batch_forwarder.specs.declared.forwarder.Forwarder.{Forwarder}
use Rattle.batch_forwarder.specs.Frames.{frames_due}
use Rattle.batch_forwarder.specs.Sending.{SendsNext, next_frame}
use Rattle.batch_forwarder.proofs.Sent.{HasSent, or_rose_back, sent_all, sent_more, sent_most}
use Rattle.batch_forwarder.proofs.Framed.{commits_are_sent}
use Rattle.batch_forwarder.proofs.sending.send_frames.Goals as goal

pub loop-preserved : goal.loop-preserved
loop-preserved g c =
    let i = c.loop.invariant in
    let host = c.args.host.now in
    let kept = g.K.Keeper.kept in
    let sent = g.L.Link.sent in
    let on = c.send_next.ensures.forwarder in
    let keeper_on = c.send_next.ensures.cause.later in
    let link_on = c.send_next.ensures.later in
    let failed = Rose (g.L.Link.faults c.loop.link) (g.L.Link.faults c.send_next.new.link) in
    record {
      acked = ap (λ (f : Forwarder). f.acked) on ∙ i.acked;
      sealed = ap (λ (f : Forwarder). f.sealed) on ∙ i.sealed;
      kept = λ told. c.send_next.ensures.kept told ∙ i.kept told;
      sent = λ told tells over.
          subst (λ (f : Forwarder). HasSent host (kept c.args.keeper.now) (sent c.args.link.now) (sent c.send_next.new.link) f (c.loop.counter + 1)) (sym on)
          (sent_more host (kept c.args.keeper.now) (sent c.args.link.now) (sent c.loop.link) c.loop.forwarder c.loop.counter (i.sent told tells over) failed (sent c.send_next.new.link)
          (subst (λ (entries : List Entry). SendsNext (next_frame host c.loop.forwarder entries) failed (sent c.loop.link) (sent c.send_next.new.link) true) (i.kept told)
          (subst (λ (b : Bool). SendsNext (next_frame host c.loop.forwarder (kept c.loop.keeper)) failed (sent c.loop.link) (sent c.send_next.new.link) b) c.if-not-branch.false (c.in_ok-send_next.ensures.sent told tells))));
      waiting = λ told. c.send_next.ensures.waiting told ∙ i.waiting told;
      keeper = (let before = i.keeper in omega (arith, before, keeper_on));
      link = (let before = i.link in omega (arith, before, link_on));
    }

pub returns-then-not-branch-clause-whole : goal.returns-then-not-branch-clause-whole
returns-then-not-branch-clause-whole g c = λ told tells over legal few named.
    let i = c.loop.invariant in
    let host = c.args.host.now in
    let kept = g.K.Keeper.kept in
    let sent = g.L.Link.sent in
    let first = g.L.Link.faults c.args.link.now in
    let before = g.L.Link.faults c.loop.link in
    let now = g.L.Link.faults c.send_next.new.link in
    let sends =
    subst (λ (entries : List Entry). SendsNext (next_frame host c.loop.forwarder entries) (Rose before now) (sent c.loop.link) (sent c.send_next.new.link) false) (i.kept told)
    (subst (λ (b : Bool). SendsNext (next_frame host c.loop.forwarder (kept c.loop.keeper)) (Rose before now) (sent c.loop.link) (sent c.send_next.new.link) b) c.if-not-branch.true (c.in_ok-send_next.ensures.sent told tells)) in
    or_rose_back (sent c.send_next.new.link ≡ sent c.args.link.now ++ frames_due host (kept c.args.keeper.now)) first before now i.link
    (sent_all host (kept c.args.keeper.now) (sent c.args.link.now) (sent c.loop.link) c.loop.forwarder c.loop.counter (i.sent told tells over) (Rose before now) (sent c.send_next.new.link) sends
    (λ place batch at. commits_are_sent (kept c.args.keeper.now) place batch host legal few named at))

pub returns-clause-whole : goal.returns-clause-whole
returns-clause-whole g c = λ told tells over legal few named.
    let spent = c.loop-test.false in
    let within = c.loop.auto.counter-end in
    inl (sent_most c.args.host.now (g.K.Keeper.kept c.args.keeper.now) (g.L.Link.sent c.args.link.now) (g.L.Link.sent c.loop.link) c.loop.forwarder c.loop.counter (c.loop.invariant.sent told tells over) (omega (arith, spent, within)))
