-- Where in the segments the live events of a table stand.
use Rattle.std.proofs.Common.{◌≡◌, ℕ, zero, suc, ◌+◌, ◌-◌, ◌<◌, ◌≤◌, Bool, true, false, cond, List, [], ◌∷◌, ◌++◌, length, take, drop, get_or, refl, sym, ap, ◌∙◌, subst, arith, length-append}
use Rattle.std.specs.Prelude.{slice_index, nat_lt}
use Rattle.std.proofs.lemmas.Bool.Decides.{nat_tests}
use Rattle.std.proofs.lemmas.List.{take-append-drop, take-append-le, take_all, get_or_append_left, get_or_at, get_or-drop, length-drop}
use Rattle.std.proofs.lemmas.List.Elements.{filter-append}
use Rattle.entry_model.specs.declared.restored.Live.{Live}
use Rattle.entry_model.specs.Fits.{IsRisingFrom}
use Rattle.event_store.specs.declared.segment.Segment.{Segment}
use Rattle.event_store.specs.declared.segments.Segments.{Segments}
use Rattle.event_store.specs.Queues.{above}
use Rattle.event_store.specs.Segments.{held_at, reach_of, joined, before_all, AreCounted, all_of, live_in, IsSound}
use Rattle.event_store.proofs.Chains.{joined_append, counted_split, reach_at, reach_last, before_at, found_at}
use Rattle.event_store.proofs.Queues.{all_above}

pub counted_parts : (table : ℕ) (xs : List Segment) (x : Segment) → AreCounted table (before_all table (xs ++ x ∷ [])) (xs ++ x ∷ []) → AreCounted table (before_all table xs) xs
counted_parts table [] x h = tt
counted_parts table (y ∷ xs) x h = (counted_split table (slice_index y.before table) (y ∷ xs) (x ∷ []) h).0

-- the closed segments have no more events than all
pub parts_less : (table : ℕ) (xs : List Segment) (x : Segment) → before_all table xs + length (joined table xs) ≤ before_all table (xs ++ x ∷ []) + length (joined table (xs ++ x ∷ []))
parts_less table [] x = omega arith
parts_less table (y ∷ xs) x =
    let all = ap length (joined_append table (y ∷ xs) (x ∷ [])) in
    omega (arith, all, length-append (joined table (y ∷ xs)) (joined table (x ∷ [])))

pub parts_before : (table : ℕ) (xs : List Segment) (x : Segment) → before_all table xs ≤ before_all table (xs ++ x ∷ [])
parts_before table [] x = omega arith
parts_before table (y ∷ xs) x = omega arith

module _ (s : Segments) (sound : IsSound s) (table : ℕ) (lt : table < 3) where
  abbrev parts : List Segment
  parts = s.parts.items

  abbrev before : ℕ
  before = before_all table (all_of s)

  pub counted : AreCounted table (before_all table (all_of s)) (all_of s)
  counted = sound.segments.counted table lt

  pub tail_reach : reach_of table s.tail ≡ before_all table (all_of s) + length (joined table (all_of s))
  tail_reach = reach_last table before parts s.tail counted

  pub reach_small : reach_of table s.tail ≤ s.last
  reach_small =
      let a = tail_reach in
      let b = sound.most table lt in
      omega (arith, a, b)

  pub first_reach : slice_index s.first table ≤ reach_of table s.tail
  first_reach =
      let a = tail_reach in
      let b = sound.within table lt in
      omega (arith, a, b)

  pub live_length : reach_of table s.tail - slice_index s.first table ≡ length (live_in s table)
  live_length =
      let a = tail_reach in
      let b = sound.held table lt in
      omega (arith, a, b, length-drop (slice_index s.first table - before) (joined table (all_of s)))

  -- the event at a place of the table is the live one at that many behind the first
  at_place : (at : ℕ) (e : Live) → get_or (joined table (all_of s)) (slice_index s.first table + at - before_all table (all_of s)) e ≡ get_or (live_in s table) at e
  at_place at e =
      let b = sound.held table lt in
      let n : slice_index s.first table + at - before_all table (all_of s) ≡ slice_index s.first table - before_all table (all_of s) + at = omega (arith, b) in
      ap (λ (k : ℕ). get_or (joined table (all_of s)) k e) n ∙ sym (get_or-drop (slice_index s.first table - before_all table (all_of s)) (joined table (all_of s)) at e)

  -- a segment has the event
  pub record IsIn (at : ℕ) (segment : Segment) : Type 0 where
    pub behind : slice_index segment.before table ≤ slice_index s.first table + at
    pub within : slice_index s.first table + at < reach_of table segment
    pub same : (e : Live) → get_or (held_at segment table) (slice_index s.first table + at - slice_index segment.before table) e ≡ get_or (live_in s table) at e

  base_same : (ys : List Segment) (k : ℕ) → k < length ys → before_all table (ys ++ s.tail ∷ []) ≡ before_all table ys
  base_same [] k within = absurd (omega (arith, within))
  base_same (y ∷ ys) k within = refl

  pub in_part : (at k : ℕ) (d : Segment) → k < length s.parts.items → before_all table s.parts.items + length (joined table (take k s.parts.items)) ≤ slice_index s.first table + at → slice_index s.first table + at < before_all table s.parts.items + length (joined table (take (k + 1) s.parts.items)) → IsIn at (get_or s.parts.items k d)
  in_part at k d within low high =
      let base = base_same parts k within in
      let front : take k (all_of s) ≡ take k parts = take-append-le k parts (s.tail ∷ []) (omega (arith, within)) in
      let more : take (k + 1) (all_of s) ≡ take (k + 1) parts = take-append-le (k + 1) parts (s.tail ∷ []) (omega (arith, within)) in
      let low' : before + length (joined table (take k (all_of s))) ≤ slice_index s.first table + at = (let a = ap (λ (ys : List Segment). length (joined table ys)) front in omega (arith, base, a, low)) in
      let high' : slice_index s.first table + at < before + length (joined table (take (k + 1) (all_of s))) = (let a = ap (λ (ys : List Segment). length (joined table ys)) more in omega (arith, base, a, high)) in
      let all : k < length (all_of s) = (let a = length-append parts (s.tail ∷ []) in omega (arith, a, within)) in
      let same : get_or (all_of s) k d ≡ get_or parts k d = get_or_append_left parts (s.tail ∷ []) d k within in
      subst (IsIn at) same (record {
        behind = (let a = before_at table before (all_of s) k d counted all in omega (arith, a, low'));
        within = (let a = reach_at table before (all_of s) k d counted all in omega (arith, a, high'));
        same = λ e. found_at table before (slice_index s.first table + at) (all_of s) k d e counted all low' high' ∙ at_place at e;
      })

  pub in_tail : (at : ℕ) → at < length (live_in s table) → before_all table s.parts.items + length (joined table s.parts.items) ≤ slice_index s.first table + at → IsIn at s.tail
  in_tail at inside low =
      let k = length parts in
      let whole : take k (all_of s) ≡ parts = take-append-le k parts (s.tail ∷ []) (omega arith) ∙ take_all k parts (omega arith) in
      let last : take (k + 1) (all_of s) ≡ all_of s = take_all (k + 1) (all_of s) (let a = length-append parts (s.tail ∷ []) in omega (arith, a)) in
      let all : k < length (all_of s) = (let a = length-append parts (s.tail ∷ []) in omega (arith, a)) in
      let low' : before + length (joined table (take k (all_of s))) ≤ slice_index s.first table + at = (let a = ap (λ (ys : List Segment). length (joined table ys)) whole in let b = front_low parts (sound.held table lt) low in omega (arith, a, b)) in
      let high' : slice_index s.first table + at < before + length (joined table (take (k + 1) (all_of s))) = (let a = ap (λ (ys : List Segment). length (joined table ys)) last in let b = live_length in let d = tail_reach in omega (arith, a, b, d, inside)) in
      let same : get_or (all_of s) k s.tail ≡ s.tail = get_or_at parts s.tail [] s.tail k refl in
      subst (IsIn at) same (record {
        behind = (let a = before_at table before (all_of s) k s.tail counted all in omega (arith, a, low'));
        within = (let a = reach_at table before (all_of s) k s.tail counted all in omega (arith, a, high'));
        same = λ e. found_at table before (slice_index s.first table + at) (all_of s) k s.tail e counted all low' high' ∙ at_place at e;
      })
    where
      front_low : (ys : List Segment) → before_all table (ys ++ s.tail ∷ []) ≤ slice_index s.first table → before_all table ys + length (joined table ys) ≤ slice_index s.first table + at → before_all table (ys ++ s.tail ∷ []) + length (joined table ys) ≤ slice_index s.first table + at
      front_low [] held low = omega (arith, held)
      front_low (y ∷ ys) held low = low

  -- the segment that a search finds
  pub read_part : (at k : ℕ) (ys : List Segment) (x y : Segment) → ys ≡ s.parts.items → k < length ys → before_all table ys + length (joined table (take k ys)) ≤ slice_index s.first table + at → (k < length ys → slice_index s.first table + at < before_all table ys + length (joined table (take (k + 1) ys))) → x ≡ get_or s.parts.items k x → y ≡ x → IsIn at y
  read_part at k ys x y same within low high read is =
      let within' : k < length s.parts.items = subst (λ (zs : List Segment). k < length zs) same within in
      let low' = subst (λ (zs : List Segment). before_all table zs + length (joined table (take k zs)) ≤ slice_index s.first table + at) same low in
      let high' = subst (λ (zs : List Segment). slice_index s.first table + at < before_all table zs + length (joined table (take (k + 1) zs))) same (high within) in
      subst (IsIn at) (sym (is ∙ read)) (in_part at k x within' low' high')

  pub read_tail : (at k : ℕ) (ys : List Segment) → ys ≡ s.parts.items → at < length (live_in s table) → length ys ≤ k → before_all table ys + length (joined table (take k ys)) ≤ slice_index s.first table + at → IsIn at s.tail
  read_tail at k ys same inside past low =
      in_tail at inside (subst (λ (zs : List Segment). before_all table zs + length (joined table zs) ≤ slice_index s.first table + at) same (subst (λ (zs : List Segment). before_all table ys + length (joined table zs) ≤ slice_index s.first table + at) (take_all k ys past) low))

  pub small_place : (at : ℕ) → at < length (live_in s table) → slice_index s.first table + at < s.last
  small_place at inside =
      let a = reach_small in
      let b = live_length in
      omega (arith, a, b, inside)

  pub small_parts : (ys : List Segment) → ys ≡ s.parts.items → before_all table ys + length (joined table ys) ≤ s.last
  small_parts ys same =
      let a = parts_less table s.parts.items s.tail in
      let b = sound.most table lt in
      subst (λ (zs : List Segment). before_all table zs + length (joined table zs) ≤ s.last) (sym same) (omega (arith, a, b))

  pub counted_read : (ys : List Segment) → ys ≡ s.parts.items → AreCounted table (before_all table ys) ys
  counted_read ys same = subst (λ (zs : List Segment). AreCounted table (before_all table zs) zs) (sym same) (counted_parts table s.parts.items s.tail counted)

  pub held_read : (ys : List Segment) → ys ≡ s.parts.items → before_all table ys ≤ slice_index s.first table
  held_read ys same =
      let a = parts_before table s.parts.items s.tail in
      let b = sound.held table lt in
      subst (λ (zs : List Segment). before_all table zs ≤ slice_index s.first table) (sym same) (omega (arith, a, b))

-- where rising numbers pass one
low_suc : (number n : ℕ) (xs : List Live) (at : ℕ) (d : Live) → IsRisingFrom n xs → at < length xs → (get_or xs at d).number ≤ number → above number (take (suc at) xs) ≡ []
low_suc number n [] at d r within low = refl
low_suc number n (x ∷ xs) zero d r within low =
    let no : nat_lt number x.number ≡ false = grind (arith, nat_tests, low) in
    ap (λ (b : Bool). cond b (x ∷ []) []) no
low_suc number n (x ∷ xs) (suc at) d r within low =
    let up = first_less x.number xs at d r.1 (omega (arith, within)) in
    let no : nat_lt number x.number ≡ false = (let a : x.number ≤ number = omega (arith, up, low) in grind (arith, nat_tests, a)) in
    ap (λ (b : Bool). cond b (x ∷ above number (take (suc at) xs)) (above number (take (suc at) xs))) no
    ∙ low_suc number x.number xs at d r.1 (omega (arith, within)) low
  where
    first_less : (n : ℕ) (xs : List Live) (at : ℕ) (d : Live) → IsRisingFrom n xs → at < length xs → n < (get_or xs at d).number
    first_less n [] at d r within = absurd (omega (arith, within))
    first_less n (x ∷ xs) zero d r within = r.0
    first_less n (x ∷ xs) (suc at) d r within =
        let a = r.0 in
        let b = first_less x.number xs at d r.1 (omega (arith, within)) in
        omega (arith, a, b)

pub low_upto : (number n : ℕ) (xs : List Live) (at : ℕ) (d : Live) → IsRisingFrom n xs → at < length xs → (get_or xs at d).number ≤ number → above number (take (at + 1) xs) ≡ []
low_upto number n xs at d r within low =
    let up : at + 1 ≡ suc at = omega arith in
    ap (λ (k : ℕ). above number (take k xs)) up ∙ low_suc number n xs at d r within low

pub high_from : (number n : ℕ) (xs : List Live) (at : ℕ) (d : Live) → IsRisingFrom n xs → at < length xs → number < (get_or xs at d).number → above number (drop at xs) ≡ drop at xs
high_from number n [] at d r within high = absurd (omega (arith, within))
high_from number n (x ∷ xs) zero d r within high =
    let yes : nat_lt number x.number ≡ true = grind (arith, nat_tests, high) in
    ap (λ (b : Bool). cond b (x ∷ above number xs) (above number xs)) yes ∙ ap (λ (es : List Live). x ∷ es) (all_above number x.number xs (omega (arith, high)) r.1)
high_from number n (x ∷ xs) (suc at) d r within high = high_from number x.number xs at d r.1 (omega (arith, within)) high

pub both_halves : (number at : ℕ) (xs : List Live) → above number (take at xs) ≡ [] → above number (drop at xs) ≡ drop at xs → drop at xs ≡ above number xs
both_halves number at xs low high =
    sym (ap (above number) (sym (take-append-drop at xs)) ∙ filter-append (λ (event : Live). nat_lt number event.number) (take at xs) (drop at xs) ∙ ap (λ (es : List Live). es ++ above number (drop at xs)) low ∙ high)
