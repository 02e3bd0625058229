-- The slices that are kept, and which of them is above a number.
use Rattle.std.proofs.Common.{◌≡◌, ℕ, Bool, true, false, cond, List, [], ◌∷◌, Some, refl, ap, ◌∙◌, arith}
use Rattle.std.specs.Prelude.{◌==◌, All, find}
use Rattle.std.proofs.lemmas.Bool.Decides.{nat_tests}
use Rattle.std.proofs.lemmas.List.Elements.{All-head, All-tail}
use Rattle.event_store.specs.declared.slice.EventSlice.{EventSlice}
use Rattle.event_store.specs.Contents.{Contents}
use Rattle.event_store.specs.Slices.{slice_above, IsSliceOf}

-- a slice of an image with this number has the image's events above it
above_is : (image : Contents) (number : ℕ) (slice : EventSlice) → IsSliceOf image slice → slice.above ≡ number → slice ≡ slice_above number image
above_is image number slice is same =
    let held = is ∙ ap (λ (above : ℕ). (slice_above above image).events) same in
    λ i. record { above = same i; events = held i }

pub found_slice : (image : Contents) (number : ℕ) (slices : List EventSlice) (slice : EventSlice) → All (IsSliceOf image) slices → Some slice ≡ find (λ (kept : EventSlice). kept.above == number) slices → slice ≡ slice_above number image
found_slice image number [] slice all found = absurd (cc)
found_slice image number (x ∷ xs) slice all found =
    by_first (x.above == number) refl (found_slice image number xs slice (All-tail (IsSliceOf image) x xs all))
  where
    by_first : (b : Bool) → (x.above == number) ≡ b → (Some slice ≡ find (λ (kept : EventSlice). kept.above == number) xs → slice ≡ slice_above number image) → slice ≡ slice_above number image
    by_first true same rest =
        let first : slice ≡ x = (let e = found ∙ ap (λ (b : Bool). cond b (Some x) (find (λ (kept : EventSlice). kept.above == number) xs)) same in cc) in
        let number_is : x.above ≡ number = grind (arith, nat_tests, same) in
        first ∙ above_is image number x (All-head (IsSliceOf image) x xs all) number_is
    by_first false other rest =
        rest (found ∙ ap (λ (b : Bool). cond b (Some x) (find (λ (kept : EventSlice). kept.above == number) xs)) other)
