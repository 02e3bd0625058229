use Rattle.std.proofs.Common.{subst, refl}
use Rattle.std.specs.Prelude.{All}
use Rattle.std.proofs.lemmas.List.{take_all}
use Rattle.std.proofs.lemmas.List.Elements.{All-more}
use Rattle.entry_model.specs.Fits.{LiveFits}
use Rattle.entry_summary.proofs.fitting.all_events_fit.Goals as goal

pub loop-event-preserved : goal.loop-event-preserved
loop-event-preserved c =
    let passes : LiveFits c.args.restored.now c.event-item.result = c.event_fits.ensures.0 c.if-not-event_fits.false in
    All-more (LiveFits c.args.restored.now) c.as_slice-event-items.result.now c.loop-event.event-index c.event-item.result c.loop-event-test.true c.loop-event.invariant (subst (LiveFits c.args.restored.now) c.event-item.is passes)

pub returns : goal.returns
returns c =
    let all : All (LiveFits c.args.restored.now) c.as_slice-event-items.result.now = subst (All (LiveFits c.args.restored.now)) (take_all c.loop-event.event-index c.as_slice-event-items.result.now c.loop-event-test.false) c.loop-event.invariant in
    (λ is. subst (All (LiveFits c.args.restored.now)) c.as_slice-event-items.ensures all, λ fit. refl)
