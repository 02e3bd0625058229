-- What captures say of a group.
use Rattle.std.proofs.Common.{◌≡◌, ℕ, ◌≤◌, ◌==◌, ap, arith, refl, zero, suc, Bool, true, false, true≢false, cond, List, Option, Some}
use Rattle.regex.specs.Patterns.{Match, span}
use Rattle.regex.specs.Search.{group_span, Shows, SpansGroups}
use Rattle.regex.specs.Writes.{group_of}
use Rattle.custom_tables.specs.Matching.{group_in}

above : (n : ℕ) → (n == 0) ≡ false → 1 ≤ n
above zero is = absurd (true≢false is)
above (suc n) is = omega (arith)

by_zero : (is_zero : Bool) (whole all : ℕ × ℕ) (other group : Option (ℕ × ℕ)) → whole ≡ all → (is_zero ≡ false → cond is_zero (Some whole) other ≡ group) → cond is_zero (Some whole) other ≡ cond is_zero (Some all) group
by_zero true whole all other group is found = ap Some is
by_zero false whole all other group is found = found refl

pub group_is : (hay : List ℕ) (m : Match) (whole : ℕ × ℕ) (cells : List ℕ) (group : ℕ) → Shows m whole cells → SpansGroups true hay m whole cells → group_span true hay whole cells group ≡ group_in group m
unfolding group_span
group_is hay m whole cells group shows spans = by_zero (group == 0) whole (span m) _ (group_of m group) shows.whole_is (λ is. spans group (above group is))
