use Rattle.std.proofs.Common.{List, ℕ, ◌∙◌, sym, subst}
use Rattle.batch_forwarder.specs.Frames.{frames_due}
use Rattle.batch_forwarder.specs.Sending.{SendsFront}
use Rattle.batch_forwarder.specs.Windows.{fresh}
use Rattle.forward_rounds.specs.Forwarding.{view_of}
use Rattle.forward_rounds.proofs.Forwarded.{beyond, forwarded, over}
use Rattle.forward_rounds.proofs.forwarding.forward.Goals as goal

pub returns-in_err-send_frames-clause-sent : goal.returns-in_err-send_frames-clause-sent
returns-in_err-send_frames-clause-sent g c = λ told legal tells.
    let begins = c.new-forwarder.ensures ∙ (λ i. fresh (c.acknowledged.ensures i) (c.batch_count.ensures i)) in
    c.in_err-send_frames.ensures.sent told tells (over g.K.Keeper.tells (g.K.Keeper.kept c.args.keeper.now) c.args.state.now c.requires.goes_on c.requires.sealed c.new-forwarder.result begins told legal)

pub returns-in-Ok-clause-sent : goal.returns-in-Ok-clause-sent
returns-in-Ok-clause-sent g c = λ told legal tells.
    let begins = c.new-forwarder.ensures ∙ (λ i. fresh (c.acknowledged.ensures i) (c.batch_count.ensures i)) in
    let kept = g.K.Keeper.kept c.args.keeper.now in
    subst (λ (sent : List (List ℕ)). SendsFront (frames_due c.args.host.now kept) (g.L.Link.sent c.args.link.now) sent) (sym (c.in-Ok.ensures.sent tells))
    (c.in_ok-send_frames.ensures.sent told tells (over g.K.Keeper.tells kept c.args.state.now c.requires.goes_on c.requires.sealed c.new-forwarder.result begins told legal))

pub returns-in-Err-clause-sent : goal.returns-in-Err-clause-sent
returns-in-Err-clause-sent g c = λ told legal tells.
    let begins = c.new-forwarder.ensures ∙ (λ i. fresh (c.acknowledged.ensures i) (c.batch_count.ensures i)) in
    let kept = g.K.Keeper.kept c.args.keeper.now in
    subst (λ (sent : List (List ℕ)). SendsFront (frames_due c.args.host.now kept) (g.L.Link.sent c.args.link.now) sent) (sym (c.in-Err.ensures.sent tells))
    (c.in_ok-send_frames.ensures.sent told tells (over g.K.Keeper.tells kept c.args.state.now c.requires.goes_on c.requires.sealed c.new-forwarder.result begins told legal))

pub returns-in-Ok-clause-done : goal.returns-in-Ok-clause-done
returns-in-Ok-clause-done g c =
    let begins = c.new-forwarder.ensures ∙ (λ i. fresh (c.acknowledged.ensures i) (c.batch_count.ensures i)) in
    let view = view_of g.L.Link in
    forwarded g.K.Keeper.tells (g.K.Keeper.kept c.args.keeper.now) c.args.state.now c.requires.goes_on c.requires.sealed c.new-forwarder.result begins c.is_state.ensures c.args.host.now c.requires.host g.L.Link.tells
    (view c.args.link.now) (view c.send_frames.new.link) (view c.poll_marks.new.link) c.send_frames.new.forwarder c.poll_marks.new.forwarder c.new-marks.result c.poll_marks.new.marks
    (record {
      same = c.in_ok-send_frames.ensures.forwarder;
      front = c.in_ok-send_frames.ensures.sent;
      whole = c.in_ok-send_frames.ensures.whole;
      waiting = c.in_ok-send_frames.ensures.waiting;
      earlier = c.in_ok-send_frames.ensures.later;
      none_is = c.new-marks.ensures;
      polls = c.in-Ok.ensures.ok;
      sent = c.in-Ok.ensures.sent;
      later = c.in-Ok.ensures.later;
    })

pub returns-in-Ok-clause-beyond : goal.returns-in-Ok-clause-beyond
returns-in-Ok-clause-beyond g c =
    beyond _ _ _ _ c.args.state.now _ _ _ (returns-in-Ok-clause-done g c)
