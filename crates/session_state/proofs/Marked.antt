-- The first of rising marks from a position on is found from the back.
use Rattle.std.proofs.Common.{◌≡◌, ℕ, zero, suc, ◌+◌, ◌-◌, ◌<◌, ◌≤◌, Bool, true, false, cond, List, [], ◌∷◌, ◌++◌, length, get_or, Some, ◌⊎◌, inl, inr, refl, sym, ap, ◌∙◌, subst, arith}
use Rattle.std.specs.Prelude.{find, nat_le, slice_get, IsTrue, ◌↔◌}
use Rattle.std.proofs.lemmas.Bool.Decides.{nat_tests}
use Rattle.entry_model.proofs.Lists.{is_below}
use Rattle.session_state.specs.Marks.{IsRising, behind_marks}

pub rising_more : (from : ℕ) (marks : List ℕ) (mark : ℕ) → IsRising from marks → behind_marks from marks ≤ mark → IsRising from (marks ++ mark ∷ [])
rising_more from [] mark h past = (past, tt)
rising_more from (m ∷ marks) mark h past = (h.0, rising_more (m + 1) marks mark h.1 past)

pub behind_more : (from : ℕ) (marks : List ℕ) (mark : ℕ) → behind_marks from (marks ++ mark ∷ []) ≡ mark + 1
behind_more from [] mark = refl
behind_more from (m ∷ marks) mark = behind_more (m + 1) marks mark

-- none is before the first
low : (from : ℕ) (marks : List ℕ) (at : ℕ) → IsRising from marks → at < length marks → from ≤ get_or marks at 0
low from [] at h within = absurd (omega (arith, within))
low from (m ∷ marks) zero h within = h.0
low from (m ∷ marks) (suc at) h within =
    let a = low (m + 1) marks at h.1 (omega (arith, within)) in
    let b = h.0 in
    omega (arith, a, b)

pub found_back : (from position : ℕ) (marks : List ℕ) (at : ℕ) → IsRising from marks → at ≤ length marks → (0 < at → get_or marks (at - 1) 0 < position) → (at < length marks → position ≤ get_or marks at 0) → slice_get marks at ≡ find (λ (mark : ℕ). nat_le position mark) marks
found_back from position [] zero h within before behind = refl
found_back from position [] (suc at) h within before behind = absurd (omega (arith, within))
found_back from position (m ∷ marks) zero h within before behind =
    let up : position ≤ m = behind (omega arith) in
    let passes : nat_le position m ≡ true = grind (arith, nat_tests, up) in
    sym (ap (λ (b : Bool). cond b (Some m) (find (λ (mark : ℕ). nat_le position mark) marks)) passes)
found_back from position (m ∷ marks) (suc at) h within before behind =
    let fails : nat_le position m ≡ false = (let k = first_low at h.1 prior (omega (arith, within)) in grind (arith, nat_tests, k)) in
    found_back (m + 1) position marks at h.1 (omega (arith, within)) (λ some. front at prior some) (λ lt. behind (omega (arith, lt)))
    ∙ sym (ap (λ (b : Bool). cond b (Some m) (find (λ (mark : ℕ). nat_le position mark) marks)) fails)
  where
    prior : get_or (m ∷ marks) at 0 < position
    prior =
        let e : suc at - 1 ≡ at = omega arith in
        subst (λ (n : ℕ). get_or (m ∷ marks) n 0 < position) e (before (omega arith))

    first_low : (at : ℕ) → IsRising (m + 1) marks → get_or (m ∷ marks) at 0 < position → at ≤ length marks → m < position
    first_low zero rest b w = b
    first_low (suc at) rest b w =
        let k = low (m + 1) marks at rest (omega (arith, w)) in
        omega (arith, k, b)

    front : (at : ℕ) → get_or (m ∷ marks) at 0 < position → 0 < at → get_or marks (at - 1) 0 < position
    front zero b some = absurd (omega (arith, some))
    front (suc at) b some =
        let e : at ≡ suc at - 1 = omega arith in
        subst (λ (n : ℕ). get_or marks n 0 < position) e b

-- where the look back has ended, the mark before is before the position
pub stops : (reaches : Bool) (at position mark : ℕ) → (IsTrue reaches ↔ (0 < at) × (position ≤ mark)) → reaches ≡ false → 0 < at → mark < position
stops reaches at position mark is ended some = by_order (is_below position mark)
  where
    by_order : (position ≤ mark) ⊎ (mark < position) → mark < position
    by_order (inl up) = absurd (let k = is.1 (some, up) in cc)
    by_order (inr before) = before
