use Rattle.std.proofs.Common.{◌∷◌, [], ◌++◌, arith, sym, subst, List}
use Rattle.entry_model.specs.declared.restored.Live.{Live}
use Rattle.event_store.specs.Queues.{pushed}
use Rattle.event_store.specs.Staging.{AreRestored}
use Rattle.event_store.proofs.Stages.{on_ok}
use Rattle.event_store.proofs.Copies.{restored_more}
use Rattle.event_store.proofs.loading.restore_event.Goals as goal

pub returns : goal.returns
returns g c =
    let event = c.args.event.now in
    let parts = c.go_on.new.parts.items in
    let tail = c.go_on.new.tail in
    on_ok c.push_event.result (λ pushes last live later h. subst (λ (qs : List (List Live)). AreRestored event.number (live ++ event ∷ []) parts (record tail { held = qs })) (sym pushes) (subst (λ (e : Live). AreRestored event.number (live ++ event ∷ []) parts (record tail { held = pushed tail.held e })) (λ i. record event { row = sym c.in_ok-copy.ensures i }) (restored_more event.number live parts tail event (omega (arith, later)) c.in_ok-go_on.ensures.holds (c.in_ok-go_on.ensures.restored last live later h)))) c.push_event.ensures.ok
