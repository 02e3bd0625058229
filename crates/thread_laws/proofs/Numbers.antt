-- The numbers of seats that are split off together.
use Rattle.std.proofs.Common.{◌≡◌, ◌≢◌, ◌⊎◌, inl, inr, ℕ, zero, suc, ◌+◌, ◌<◌, ◌≤◌, ◌==◌, ◌||◌, Bool, true, false, List, [], ◌∷◌, refl, ap, sym, ◌∙◌, subst, arith}
use Rattle.std.proofs.Common.{ne_eqb}
use Rattle.std.specs.Prelude.{All, Contains, nat_le}
use Rattle.std.specs.List.{list_any, range_with_len}
use Rattle.std.proofs.lemmas.List.Elements.{All-contains, Contains-append_right}
use mathlib.Core.Logic.{dite}
use native.Mathlib.Decide.{ℕ_discrete}
use Rattle.std.proofs.lemmas.Bool.Decides.{nat_tests}
use Rattle.entry_model.specs.Fits.{IsDistinct}
use Rattle.turn_lock.specs.Turns.{IsAbsent}
use Rattle.shared_store.specs.declared.noted.Noted.{Noted}
use Rattle.thread_laws.specs.Jobs.{Stamped}
use Rattle.thread_laws.specs.Joining.{HasEach}
use Rattle.thread_laws.specs.Laws.{Numbers}
use Rattle.turn_lock.proofs.Lists.{all_right}

first_in : (x : ℕ) (xs : List ℕ) → Contains (x ∷ xs) x
first_in x xs = (zero, omega arith, refl)

-- each number from the first on is in the range
pub in_range : (first count number : ℕ) → first ≤ number → number < first + count → Contains (range_with_len first count) number
in_range first zero number least most = absurd (omega (arith, least, most))
in_range first (suc count) number least most = dite (ℕ_discrete number first)
    (λ e. subst (λ (n : ℕ). Contains (first ∷ range_with_len (first + 1) count) n) (sym e) (first_in first (range_with_len (first + 1) count)))
    (λ ne. Contains-append_right (first ∷ []) (range_with_len (first + 1) count) number (in_range (first + 1) count number (omega (arith, least, ne)) (omega (arith, most))))

-- and none below it
none_like : (below first count : ℕ) → below < first → list_any (λ (y : ℕ). y == below) (range_with_len first count) ≡ false
none_like below first zero less = refl
none_like below first (suc count) less =
    ap (λ (b : Bool). b || (list_any (λ (y : ℕ). y == below) (range_with_len (first + 1) count))) (ne_eqb first below (λ e. absurd (omega (arith, e, less)))) ∙ none_like below (first + 1) count (omega (arith, less))

-- no two are the same
pub range_distinct : (first count : ℕ) → IsDistinct ◌==◌ (range_with_len first count)
range_distinct first zero = tt
range_distinct first (suc count) = (none_like first (first + 1) count (omega arith), range_distinct (first + 1) count)

not_absent : (joined : List ℕ) (number : ℕ) → IsAbsent joined number → Contains joined number → ⊥
not_absent joined number absent at = absent at.0 number at.1 at.2

-- a number is at most this one, or beyond it
within_or : (number most : ℕ) → (number ≤ most) ⊎ (most < number)
within_or number most = by (nat_le number most) refl
  where
    by : (b : Bool) → nat_le number most ≡ b → (number ≤ most) ⊎ (most < number)
    by true e = inl (grind (arith, nat_tests, e))
    by false e = inr (grind (arith, nat_tests, e))

module _ (given count : ℕ) (joined : List ℕ) (each : HasEach given joined) where
  one_of : (number : ℕ) → (number ≢ 0) × IsAbsent joined number → number ≤ given + count → Contains (range_with_len (given + 1) count) number
  one_of number others most = elim (within_or number given) [
    | inl within ↦ absurd (not_absent joined number others.1 (each number (omega (arith, others.0)) within))
    | inr beyond ↦ in_range (given + 1) count number (omega (arith, beyond)) (omega (arith, most))
  ]

  pub each_more : (now : List ℕ) → All (Contains now) (range_with_len (given + 1) count) → All (Contains now) joined → HasEach (given + count) now
  each_more now new old number some most = elim (within_or number given) [
    | inl within ↦ All-contains (Contains now) joined number old (each number some within)
    | inr beyond ↦ All-contains (Contains now) (range_with_len (given + 1) count) number new (in_range (given + 1) count number (omega (arith, beyond)) (omega (arith, most)))
  ]

  pub all_of : (more : Stamped) → All (λ (note : ℕ × Noted). (note.0 ≢ 0) × IsAbsent joined note.0) more → All (λ (note : ℕ × Noted). note.0 ≤ given + count) more → All (λ (note : ℕ × Noted). Contains (range_with_len (given + 1) count) note.0) more
  all_of more others most = λ k d h. one_of _ (others k d h) (most k d h)

pub numbers : Numbers
numbers given count joined before all each grows most = record {
  more = grows.0;
  are = grows.1;
  numbered = all_of given count joined each grows.0 grows.2 (all_right (λ (note : ℕ × Noted). note.0 ≤ given + count) before grows.0 (subst (All (λ (note : ℕ × Noted). note.0 ≤ given + count)) grows.1 most));
  distinct = range_distinct (given + 1) count;
  each = each_more given count joined each;
}
