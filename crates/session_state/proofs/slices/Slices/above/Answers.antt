use Rattle.std.proofs.Common.{◌≡◌, ◌==◌, List, find, ap, ◌∙◌, subst}
use Rattle.std.specs.Prelude.{IfOk}
use Rattle.event_store.specs.declared.slice.EventSlice.{EventSlice}
use Rattle.session_state.proofs.Sliced.{found_slice}
use Rattle.session_state.proofs.slices.Slices.above.Goals as goal

pub returns-in-Some-clause-slice : goal.returns-in-Some-clause-slice
returns-in-Some-clause-slice g c =
    let found = c.in-Some.ensures ∙ ap (λ (slices : List EventSlice). find (λ (slice : EventSlice). slice.above == c.args.above) slices) (c.deref.ensures.value ∙ c.self.view_is) in
    let is = found_slice c.args.image.now c.args.above c.args.self.now c.in-Some.slice.now c.requires found in
    subst (λ (slice : EventSlice). IfOk c.share.result (λ (shared : EventSlice). shared ≡ slice)) is c.share.ensures.same
