use Rattle.std.proofs.Common.{◌≡◌, refl, subst}
use Rattle.std.specs.Prelude.{IfOk}
use Rattle.event_store.specs.Contents.{Shown, cut_above}
use Rattle.event_store.specs.declared.slice.EventSlice.{EventSlice}
use Rattle.event_store.proofs.image.Image.slice.Goals as goal

pub view-requires : goal.view-requires
view-requires g c = rw (c.in_ok-slice.ensures.slice) refl

pub returns-clause-shown : goal.returns-clause-shown
returns-clause-shown g c =
    subst (λ (slice : EventSlice). IfOk c.view.result (λ (view : Shown). view ≡ cut_above slice.above c.args.self.now)) c.in_ok-slice.ensures.slice c.view.ensures.shown
