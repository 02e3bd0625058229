-- How many segments a slice shares.
use Rattle.std.proofs.Common.{◌≡◌, ℕ, zero, suc, ◌+◌, ◌-◌, ◌*◌, ◌/◌, ◌<◌, ◌≤◌, ◌⊎◌, inl, inr, true, List, [], ◌∷◌, ◌++◌, length, take, get_or, refl, sym, ap, ◌∙◌, subst, arith, length-append}
use Rattle.std.specs.Prelude.{All, slice_index, nat_lt, max}
use Rattle.std.specs.List.{AllByRecursion}
use Rattle.entry_model.proofs.Lists.{is_below}
use Rattle.std.proofs.lemmas.Bool.Decides.{nat_tests}
use Rattle.std.proofs.lemmas.List.{take-append-le, length-drop, get_or_append_left, get_or-drop}
use Rattle.std.proofs.lemmas.List.Elements.{All-filter, All-from_recursion, filter_passes}
use Rattle.entry_model.specs.declared.restored.Live.{Live}
use Rattle.entry_model.specs.Fits.{IsRisingFrom}
use Rattle.event_store.specs.declared.segment.Segment.{Segment}
use Rattle.event_store.specs.declared.segments.Segments.{Segments}
use Rattle.event_store.specs.Queues.{above}
use Rattle.event_store.specs.Costs.{first_number, least_number}
use Rattle.event_store.specs.Segments.{held_at, count_of, joined, before_all, AreSpaced, all_of, live_in, all_live, IsSound, IsFirstAbove}
use Rattle.event_store.proofs.Chains.{joined_part, before_at, reach_at, found_at, spaced_split, end_of, ends_apart}

beyond_both : (number least n end : ℕ) → number < n → least ≤ n → n ≤ end → max number (least - 1) < end
beyond_both number least n end a b c = omega (arith, a, b, c)

few_steps : (count k more last from end closed tail : ℕ) → from < end → end + 256 * (count - k) ≤ closed + 256 → closed + 256 ≤ tail → more + tail ≤ last + 256 → more ≤ 255 → k < count → count - k + more ≤ (last - from) / 256 + 256
few_steps count k more last from end closed tail a b c d e f =
    let whole : 256 * (count - k) ≤ last - from + 255 = omega (arith, a, b, c, d) in
    omega (arith, whole, e)

-- no live number is less than the least
all_from : (n low : ℕ) (xs : List Live) → low ≤ n → IsRisingFrom n xs → AllByRecursion (λ (x : Live). low ≤ x.number) xs
all_from n low [] up r = tt
all_from n low (x ∷ xs) up r = (let a = r.0 in omega (arith, a, up), all_from x.number low xs (let a = r.0 in omega (arith, a, up)) r.1)

first_least : (none : ℕ) (xs : List Live) → IsRisingFrom 0 xs → AllByRecursion (λ (x : Live). first_number none xs ≤ x.number) xs
first_least none [] r = tt
first_least none (x ∷ xs) r = (omega arith, all_from x.number x.number xs (omega arith) r.1)

least_at : (none : ℕ) (a b c : List Live) (table : ℕ) → table < 3 → least_number none (a ∷ b ∷ c ∷ []) ≤ first_number none (get_or (a ∷ b ∷ c ∷ []) table [])
least_at none a b c zero lt = omega arith
least_at none a b c (suc zero) lt = omega arith
least_at none a b c (suc (suc zero)) lt = omega arith
least_at none a b c (suc (suc (suc n))) lt = absurd (omega (arith, lt))

live_at : (s : Segments) (table : ℕ) → table < 3 → get_or (all_live s) table [] ≡ live_in s table
live_at s zero lt = refl
live_at s (suc zero) lt = refl
live_at s (suc (suc zero)) lt = refl
live_at s (suc (suc (suc n))) lt = absurd (omega (arith, lt))

head_of : (xs : List Live) → 0 < length xs → Live
head_of [] h = absurd (omega (arith, h))
head_of (x ∷ xs) h = x

-- the end of the segment at a place: its events are not beyond it, and each segment behind it has 256 numbers
pub record EndsAt (xs : List Segment) (k : ℕ) (d : Segment) (end : ℕ) : Type 0 where
  pub known : (table : ℕ) → table < 3 → All (λ (event : Live). event.number ≤ (get_or xs k d).end) (held_at (get_or xs k d) table)
  pub apart : (get_or xs k d).end + 256 * (length xs - k) ≤ end + 256

ends_at : (start : ℕ) (xs : List Segment) (k : ℕ) (d : Segment) → AreSpaced start xs → k < length xs → EndsAt xs k d (end_of start xs)
ends_at start [] k d h within = absurd (omega (arith, within))
ends_at start (x ∷ xs) zero d h within =
    let a = ends_apart x.end xs h.2 in
    record { known = h.1; apart = omega (arith, a) }
ends_at start (x ∷ xs) (suc k) d h within =
    let rest = ends_at x.end xs k d h.2 (omega (arith, within)) in
    let a = rest.apart in
    record { known = rest.known; apart = omega (arith, a) }

module _ (s : Segments) (sound : IsSound s) (rising : (table : ℕ) → table < 3 → IsRisingFrom 0 (live_in s table)) (number : ℕ) (first : List ℕ) (h : IsFirstAbove number s first) (k : ℕ) where
  abbrev parts : List Segment
  parts = s.parts.items

  abbrev least : ℕ
  least = least_number (1 + s.last) (all_live s)

  -- what the first shared segment shows is beyond the lower bound
  reaches : k < length parts → (table : ℕ) → table < 3 → slice_index first table < before_all table parts + length (joined table (take (k + 1) parts)) → before_all table parts + length (joined table (take k parts)) ≤ slice_index first table → max number (least - 1) < (get_or parts k s.tail).end
  reaches within table lt ahead behind =
      let x = get_or parts k s.tail in
      let base = base_same parts within in
      let place = slice_index first table in
      let n = place - before_all table (all_of s) in
      let none : n + 0 ≡ n = omega arith in
      let long = length-append parts (s.tail ∷ []) in
      let front : take k (all_of s) ≡ take k parts = take-append-le k parts (s.tail ∷ []) (omega (arith, within)) in
      let more : take (k + 1) (all_of s) ≡ take (k + 1) parts = take-append-le (k + 1) parts (s.tail ∷ []) (omega (arith, within)) in
      let low : before_all table (all_of s) + length (joined table (take k (all_of s))) ≤ place = (let a = ap (λ (ys : List Segment). length (joined table ys)) front in omega (arith, a, base, behind)) in
      let high : place < before_all table (all_of s) + length (joined table (take (k + 1) (all_of s))) = (let a = ap (λ (ys : List Segment). length (joined table ys)) more in omega (arith, a, base, ahead)) in
      let same : get_or (all_of s) k s.tail ≡ x = get_or_append_left parts (s.tail ∷ []) s.tail k within in
      let all = joined_part table (k + 1) (all_of s) in
      let here : n < length (joined table (all_of s)) = omega (arith, low, high, all) in
      let counted = sound.segments.counted table lt in
      let some = head_of (joined table (all_of s)) (omega (arith, here)) in
      let e = get_or (joined table (all_of s)) n some in
      let found : get_or (held_at (get_or (all_of s) k s.tail) table) (place - slice_index (get_or (all_of s) k s.tail).before table) some ≡ e = found_at table (before_all table (all_of s)) place (all_of s) k s.tail some counted (omega (arith, long, within)) low high in
      let reach = reach_at table (before_all table (all_of s)) (all_of s) k s.tail counted (omega (arith, long, within)) in
      let begin = before_at table (before_all table (all_of s)) (all_of s) k s.tail counted (omega (arith, long, within)) in
      let ends = ends_at 0 parts k s.tail (spaced_split 0 parts (s.tail ∷ []) sound.segments.spaced).0 within in
      let at = place - slice_index (get_or (all_of s) k s.tail).before table in
      let inside : at < length (held_at (get_or (all_of s) k s.tail) table) = omega (arith, reach, begin, low, high) in
      let known : (get_or (held_at (get_or (all_of s) k s.tail) table) at some).number ≤ x.end = subst (λ (y : Segment). at < length (held_at y table) → (get_or (held_at y table) at some).number ≤ x.end) (sym same) (ends.known table lt at some) inside in
      let upto : e.number ≤ x.end = subst (λ (y : Live). y.number ≤ x.end) found known in
      let shown : get_or (above number (live_in s table)) 0 some ≡ e = ap (λ (ys : List Live). get_or ys 0 some) (sym (h.live table lt)) ∙ get_or-drop n (joined table (all_of s)) 0 some ∙ ap (λ (m : ℕ). get_or (joined table (all_of s)) m some) none in
      let any : 0 < length (above number (live_in s table)) = (let a = ap length (h.live table lt) in let b = length-drop n (joined table (all_of s)) in omega (arith, a, b, here)) in
      let passes : nat_lt number e.number ≡ true = subst (λ (y : Live). nat_lt number y.number ≡ true) shown (filter_passes (λ (event : Live). nat_lt number event.number) (live_in s table) 0 some any) in
      let beyond : number < e.number = grind (arith, nat_tests, passes) in
      let firsts = All-filter (λ (event : Live). nat_lt number event.number) (λ (event : Live). first_number (1 + s.last) (live_in s table) ≤ event.number) (live_in s table) (All-from_recursion (λ (event : Live). first_number (1 + s.last) (live_in s table) ≤ event.number) (live_in s table) (first_least (1 + s.last) (live_in s table) (rising table lt))) in
      let firstly : first_number (1 + s.last) (live_in s table) ≤ e.number = subst (λ (y : Live). first_number (1 + s.last) (live_in s table) ≤ y.number) shown (firsts 0 some any) in
      let leastly = least_at (1 + s.last) (live_in s 0) (live_in s 1) (live_in s 2) table lt in
      let mine = ap (first_number (1 + s.last)) (live_at s table lt) in
      let low_least : least ≤ e.number = omega (arith, leastly, mine, firstly) in
      beyond_both number least e.number x.end beyond low_least upto
    where
      base_same : (ys : List Segment) → k < length ys → before_all table (ys ++ s.tail ∷ []) ≡ before_all table ys
      base_same [] w = absurd (omega (arith, w))
      base_same (y ∷ ys) w = refl

  pub shared_few : k ≤ length s.parts.items → ((table : ℕ) → table < 3 → before_all table s.parts.items + length (joined table (take k s.parts.items)) ≤ slice_index first table) → (k < length s.parts.items → (table : ℕ) × (table < 3) × (slice_index first table < before_all table s.parts.items + length (joined table (take (k + 1) s.parts.items)))) → length s.parts.items - k + count_of s.tail ≤ (s.last - max number (least_number (1 + s.last) (all_live s) - 1)) / 256 + 256
  shared_few within behind ahead = by_place (is_below (length parts) k)
    where
      few : count_of s.tail ≤ 255
      few =
          let a = sound.segments.few in
          let b = sound.segments.unfilled in
          omega (arith, a, b)

      by_place : (length s.parts.items ≤ k) ⊎ (k < length s.parts.items) → length s.parts.items - k + count_of s.tail ≤ (s.last - max number (least_number (1 + s.last) (all_live s) - 1)) / 256 + 256
      by_place (inl past) = (let a = few in omega (arith, a, past))
      by_place (inr inside) =
          let found = ahead inside in
          let beyond = reaches inside found.0 found.1 found.2 (behind found.0 found.1) in
          let halves = spaced_split 0 parts (s.tail ∷ []) sound.segments.spaced in
          let apart = (ends_at 0 parts k s.tail halves.0 inside).apart in
          let last = halves.1.0 in
          let a = few in
          let b = sound.segments.few in
          few_steps (length parts) k (count_of s.tail) s.last (max number (least_number (1 + s.last) (all_live s) - 1)) (get_or parts k s.tail).end (end_of 0 parts) s.tail.end beyond apart last b a (omega (arith, inside))

pub sliced_few : (s : Segments) (sound : IsSound s) (rising : (table : ℕ) → table < 3 → IsRisingFrom 0 (live_in s table)) (number : ℕ) (first : List ℕ) (h : IsFirstAbove number s first) (k : ℕ) (ys : List Segment) → ys ≡ s.parts.items → k ≤ length ys → ((table : ℕ) → table < 3 → before_all table ys + length (joined table (take k ys)) ≤ slice_index first table) → (k < length ys → (table : ℕ) × (table < 3) × (slice_index first table < before_all table ys + length (joined table (take (k + 1) ys)))) → length s.parts.items - k + count_of s.tail ≤ (s.last - max number (least_number (1 + s.last) (all_live s) - 1)) / 256 + 256
sliced_few s sound rising number first h k ys same within behind ahead =
    shared_few s sound rising number first h k
    (subst (λ (zs : List Segment). k ≤ length zs) same within)
    (subst (λ (zs : List Segment). (table : ℕ) → table < 3 → before_all table zs + length (joined table (take k zs)) ≤ slice_index first table) same behind)
    (subst (λ (zs : List Segment). k < length zs → (table : ℕ) × (table < 3) × (slice_index first table < before_all table zs + length (joined table (take (k + 1) zs)))) same ahead)
