use Rattle.std.proofs.Common.{ℕ, ◌<◌, ◌^◌, List, ◌++◌, codes, refl, ap}
use Rattle.std.specs.Fmt.{decimal}
use Rattle.batch_frames.specs.Parts.{slice_part}
use Rattle.batch_frames.proofs.Sequences.{both_taken}
use Rattle.batch_frames.proofs.parts.take_slice.Goals as goal

abbrev IsWord : ℕ → Type 0
IsWord n = n < 2 ^ 64

abbrev lo_text : ℕ → List ℕ
lo_text v = codes ",\"lo\":" ++ decimal v

abbrev hi_text : ℕ → List ℕ
hi_text v = codes ",\"hi\":" ++ decimal v

abbrev cut_text : ℕ → List ℕ
cut_text v = codes ",\"cut\":" ++ decimal v

abbrev moment_text : ℕ → List ℕ
moment_text v = codes ",\"moment\":" ++ decimal v

pub returns : goal.returns
unfolding slice_part
returns c = λ slice behind held ended is.
    let last = both_taken cut_text IsWord moment_text IsWord _ _ _ _ _ (λ _ _. refl) c.in_ok-cut.ensures c.in_ok-moment.ensures in
    let three = both_taken hi_text IsWord (λ (p : ℕ × ℕ). cut_text p.0 ++ moment_text p.1) (λ (p : ℕ × ℕ). IsWord p.0 × IsWord p.1) _ _ _ _ _ (λ _ _. refl) c.in_ok-hi.ensures last in
    let taken = both_taken lo_text IsWord (λ (p : ℕ × (ℕ × ℕ)). hi_text p.0 ++ (cut_text p.1.0 ++ moment_text p.1.1)) (λ (p : ℕ × (ℕ × ℕ)). IsWord p.0 × (IsWord p.1.0 × IsWord p.1.1)) _ _ _ _ _ (λ _ _. refl) c.in_ok-lo.ensures three (slice.lo, (slice.hi, (slice.cut, slice.moment))) behind (held.lo, (held.hi, (held.cut, held.moment))) ended is in
    (ap (λ (p : ℕ × (ℕ × (ℕ × ℕ))). record { lo = p.0; hi = p.1.0; cut = p.1.1.0; moment = p.1.1.1 }) taken.0, taken.1)
