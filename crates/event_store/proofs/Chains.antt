-- Segments that stand behind one another.
use Rattle.std.proofs.Common.{◌≡◌, ◌⊎◌, ℕ, zero, suc, ◌+◌, ◌-◌, ◌*◌, ◌<◌, ◌≤◌, List, [], ◌∷◌, ◌++◌, length, take, drop, get_or, refl, sym, ap, ◌∙◌, subst, inl, inr, arith, append_assoc, length-append}
use Rattle.std.specs.Prelude.{slice_index, min}
use Rattle.entry_model.proofs.Lists.{is_below}
use Rattle.std.proofs.lemmas.List.{append-nil, take-append-drop, take-take, get_or_append_left, get_or-append_right}
use Rattle.entry_model.specs.declared.restored.Live.{Live}
use Rattle.event_store.specs.declared.segment.Segment.{Segment}
use Rattle.event_store.specs.Segments.{held_at, reach_of, joined, before_all, AreCounted, AreSpaced}

pub joined_append : (table : ℕ) (xs ys : List Segment) → joined table (xs ++ ys) ≡ joined table xs ++ joined table ys
joined_append table [] ys = refl
joined_append table (x ∷ xs) ys =
    ap (λ (es : List Live). held_at x table ++ es) (joined_append table xs ys) ∙ sym (append_assoc (held_at x table) (joined table xs) (joined table ys))

pub joined_push : (table : ℕ) (xs : List Segment) (x : Segment) → joined table (xs ++ x ∷ []) ≡ joined table xs ++ held_at x table
joined_push table xs x =
    joined_append table xs (x ∷ []) ∙ ap (λ (es : List Live). joined table xs ++ es) (append-nil (held_at x table))

pub counted_split : (table before : ℕ) (xs ys : List Segment) → AreCounted table before (xs ++ ys) → AreCounted table before xs × AreCounted table (before + length (joined table xs)) ys
counted_split table before [] ys h =
    let n : before ≡ before + 0 = omega arith in
    (tt, subst (λ (k : ℕ). AreCounted table k ys) n h)
counted_split table before (x ∷ xs) ys h =
    let rest = counted_split table (before + length (held_at x table)) xs ys h.1 in
    let n : before + length (held_at x table) + length (joined table xs) ≡ before + length (held_at x table ++ joined table xs) = omega (arith, length-append (held_at x table) (joined table xs)) in
    ((h.0, rest.0), subst (λ (k : ℕ). AreCounted table k ys) n rest.1)

pub counted_both : (table before : ℕ) (xs ys : List Segment) → AreCounted table before xs → AreCounted table (before + length (joined table xs)) ys → AreCounted table before (xs ++ ys)
counted_both table before [] ys h k =
    let n : before + 0 ≡ before = omega arith in
    subst (λ (m : ℕ). AreCounted table m ys) n k
counted_both table before (x ∷ xs) ys h k =
    let n : before + length (held_at x table ++ joined table xs) ≡ before + length (held_at x table) + length (joined table xs) = omega (arith, length-append (held_at x table) (joined table xs)) in
    (h.0, counted_both table (before + length (held_at x table)) xs ys h.1 (subst (λ (m : ℕ). AreCounted table m ys) n k))

-- the segment at a place says how many events there were up to its end
reach_suc : (table before : ℕ) (xs : List Segment) (at : ℕ) (d : Segment) → AreCounted table before xs → at < length xs → reach_of table (get_or xs at d) ≡ before + length (joined table (take (suc at) xs))
reach_suc table before [] at d h within = absurd (omega (arith, within))
reach_suc table before (x ∷ xs) zero d h within =
    ap (λ (n : ℕ). n + length (held_at x table)) h.0 ∙ ap (λ (es : List Live). before + length es) (sym (append-nil (held_at x table)))
reach_suc table before (x ∷ xs) (suc at) d h within =
    reach_suc table (before + length (held_at x table)) xs at d h.1 (omega (arith, within))
    ∙ omega (arith, length-append (held_at x table) (joined table (take (suc at) xs)))

pub reach_at : (table before : ℕ) (xs : List Segment) (at : ℕ) (d : Segment) → AreCounted table before xs → at < length xs → reach_of table (get_or xs at d) ≡ before + length (joined table (take (at + 1) xs))
reach_at table before xs at d h within =
    let n : suc at ≡ at + 1 = omega arith in
    reach_suc table before xs at d h within ∙ ap (λ (k : ℕ). before + length (joined table (take k xs))) n

pub reach_last : (table before : ℕ) (xs : List Segment) (x : Segment) → AreCounted table before (xs ++ x ∷ []) → reach_of table x ≡ before + length (joined table (xs ++ x ∷ []))
reach_last table before xs x h =
    let last = (counted_split table before xs (x ∷ []) h).1.0 in
    omega (arith, last, ap length (joined_push table xs x), length-append (joined table xs) (held_at x table))

-- a part of them has no more events than all
pub joined_part : (table at : ℕ) (xs : List Segment) → length (joined table (take at xs)) ≤ length (joined table xs)
joined_part table at xs =
    let all = ap length (ap (joined table) (sym (take-append-drop at xs)) ∙ joined_append table (take at xs) (drop at xs)) in
    omega (arith, all, length-append (joined table (take at xs)) (joined table (drop at xs)))

pub before_is : (table before : ℕ) (xs : List Segment) (x : Segment) → AreCounted table before (xs ++ x ∷ []) → before_all table (xs ++ x ∷ []) ≡ before
before_is table before [] x h = h.0
before_is table before (y ∷ xs) x h = h.0

-- what is dropped in front is what was before the first
pub counted_drop : (table before at : ℕ) (xs : List Segment) → AreCounted table before xs → AreCounted table (before + length (joined table (take at xs))) (drop at xs)
counted_drop table before at xs h =
    (counted_split table before (take at xs) (drop at xs) (subst (AreCounted table before) (sym (take-append-drop at xs)) h)).1

abbrev pub end_of : ℕ → List Segment → ℕ
end_of start [] = start
end_of start (x ∷ xs) = end_of x.end xs

pub spaced_split : (start : ℕ) (xs ys : List Segment) → AreSpaced start (xs ++ ys) → AreSpaced start xs × AreSpaced (end_of start xs) ys
spaced_split start [] ys h = (tt, h)
spaced_split start (x ∷ xs) ys h =
    let rest = spaced_split x.end xs ys h.2 in
    ((h.0, h.1, rest.0), rest.1)

pub spaced_both : (start : ℕ) (xs ys : List Segment) → AreSpaced start xs → AreSpaced (end_of start xs) ys → AreSpaced start (xs ++ ys)
spaced_both start [] ys h k = k
spaced_both start (x ∷ xs) ys h k = (h.0, h.1, spaced_both x.end xs ys h.2 k)

pub end_push : (start : ℕ) (xs : List Segment) (x : Segment) → end_of start (xs ++ x ∷ []) ≡ x.end
end_push start [] x = refl
end_push start (y ∷ xs) x = end_push y.end xs x

-- each range takes 256 numbers
pub ends_apart : (start : ℕ) (xs : List Segment) → AreSpaced start xs → start + 256 * length xs ≤ end_of start xs
ends_apart start [] h = omega arith
ends_apart start (x ∷ xs) h =
    let a = h.0 in
    let b = ends_apart x.end xs h.2 in
    omega (arith, a, b)

spaced_from : (low start : ℕ) (xs : List Segment) → low ≤ start → AreSpaced start xs → AreSpaced low xs
spaced_from low start [] up h = tt
spaced_from low start (x ∷ xs) up h =
    let a = h.0 in
    (omega (arith, up, a), h.1, h.2)

pub spaced_drop : (at : ℕ) (xs ys : List Segment) → AreSpaced 0 (xs ++ ys) → AreSpaced 0 (drop at xs ++ ys)
spaced_drop at xs ys h =
    let whole : take at xs ++ (drop at xs ++ ys) ≡ xs ++ ys = sym (append_assoc (take at xs) (drop at xs) ys) ∙ ap (λ (zs : List Segment). zs ++ ys) (take-append-drop at xs) in
    spaced_from 0 (end_of 0 (take at xs)) (drop at xs ++ ys) (omega arith) (spaced_split 0 (take at xs) (drop at xs ++ ys) (subst (AreSpaced 0) (sym whole) h)).1

-- more of them have no fewer events
pub joined_more : (table at more : ℕ) (xs : List Segment) → at ≤ more → length (joined table (take at xs)) ≤ length (joined table (take more xs))
joined_more table at more xs up =
    subst (λ (ys : List Segment). length (joined table ys) ≤ length (joined table (take more xs))) (take-take at more xs up) (joined_part table at (take more xs))

pub before_at : (table before : ℕ) (xs : List Segment) (at : ℕ) (d : Segment) → AreCounted table before xs → at < length xs → slice_index (get_or xs at d).before table ≡ before + length (joined table (take at xs))
before_at table before [] at d h within = absurd (omega (arith, within))
before_at table before (x ∷ xs) zero d h within = h.0 ∙ omega arith
before_at table before (x ∷ xs) (suc at) d h within =
    before_at table (before + length (held_at x table)) xs at d h.1 (omega (arith, within))
    ∙ omega (arith, length-append (held_at x table) (joined table (take at xs)))

-- an event stands in the segment that reaches beyond its place
found_suc : (table before place : ℕ) (xs : List Segment) (at : ℕ) (d : Segment) (e : Live) → AreCounted table before xs → at < length xs → before + length (joined table (take at xs)) ≤ place → place < before + length (joined table (take (suc at) xs)) → get_or (held_at (get_or xs at d) table) (place - slice_index (get_or xs at d).before table) e ≡ get_or (joined table xs) (place - before) e
found_suc table before place [] at d e h within low high = absurd (omega (arith, within))
found_suc table before place (x ∷ xs) zero d e h within low high =
    let held = ap length (append-nil (held_at x table)) in
    ap (λ (n : ℕ). get_or (held_at x table) (place - n) e) h.0
    ∙ sym (get_or_append_left (held_at x table) (joined table xs) e (place - before) (omega (arith, held, low, high)))
found_suc table before place (x ∷ xs) (suc at) d e h within low high =
    let a = length-append (held_at x table) (joined table (take at xs)) in
    let b = length-append (held_at x table) (joined table (take (suc at) xs)) in
    let n : place - (before + length (held_at x table)) ≡ place - before - length (held_at x table) = omega arith in
    found_suc table (before + length (held_at x table)) place xs at d e h.1 (omega (arith, within)) (omega (arith, a, low)) (omega (arith, b, high))
    ∙ ap (λ (k : ℕ). get_or (joined table xs) k e) n
    ∙ sym (get_or-append_right (held_at x table) (joined table xs) (length (held_at x table)) (place - before) e refl (omega (arith, a, low)))

pub found_at : (table before place : ℕ) (xs : List Segment) (at : ℕ) (d : Segment) (e : Live) → AreCounted table before xs → at < length xs → before + length (joined table (take at xs)) ≤ place → place < before + length (joined table (take (at + 1) xs)) → get_or (held_at (get_or xs at d) table) (place - slice_index (get_or xs at d).before table) e ≡ get_or (joined table xs) (place - before) e
found_at table before place xs at d e h within low high =
    let n : at + 1 ≡ suc at = omega arith in
    found_suc table before place xs at d e h within low (subst (λ (k : ℕ). place < before + length (joined table (take k xs))) n high)

abbrev pub IsBehind : List Segment → List ℕ → ℕ → ℕ → Type 0
IsBehind xs first table at = before_all table xs + length (joined table (take at xs)) ≤ slice_index first table

abbrev pub IsAhead : List Segment → List ℕ → ℕ → ℕ → Type 0
IsAhead xs first table at = slice_index first table < before_all table xs + length (joined table (take (at + 1) xs))

behind_less : (xs : List Segment) (first : List ℕ) (table at more : ℕ) → at ≤ more → IsBehind xs first table more → IsBehind xs first table at
behind_less xs first table at more up h = (let a = joined_more table at more xs up in omega (arith, a, h))

-- the least of three places
pub least_behind : (xs : List Segment) (first : List ℕ) (one two three : ℕ) → IsBehind xs first 0 one → IsBehind xs first 1 two → IsBehind xs first 2 three → (table : ℕ) → table < 3 → IsBehind xs first table (min (min one two) three)
least_behind xs first one two three a b c zero lt = behind_less xs first 0 (min (min one two) three) one (omega arith) a
least_behind xs first one two three a b c (suc zero) lt = behind_less xs first 1 (min (min one two) three) two (omega arith) b
least_behind xs first one two three a b c (suc (suc zero)) lt = behind_less xs first 2 (min (min one two) three) three (omega arith) c
least_behind xs first one two three a b c (suc (suc (suc n))) lt = absurd (omega (arith, lt))

pub least_ahead : (xs : List Segment) (first : List ℕ) (one two three : ℕ) → (one < length xs → IsAhead xs first 0 one) → (two < length xs → IsAhead xs first 1 two) → (three < length xs → IsAhead xs first 2 three) → min (min one two) three < length xs → (table : ℕ) × (table < 3) × IsAhead xs first table (min (min one two) three)
least_ahead xs first one two three a b c within = by_order (is_below one two) (is_below three (min one two))
  where
    by_order : (one ≤ two) ⊎ (two < one) → (three ≤ min one two) ⊎ (min one two < three) → (table : ℕ) × (table < 3) × IsAhead xs first table (min (min one two) three)
    by_order x (inl p) =
        let e : three ≡ min (min one two) three = omega (arith, p) in
        (2, omega arith, subst (IsAhead xs first 2) e (c (omega (arith, e, within))))
    by_order (inl q) (inr p) =
        let e : one ≡ min (min one two) three = omega (arith, p, q) in
        (0, omega arith, subst (IsAhead xs first 0) e (a (omega (arith, e, within))))
    by_order (inr q) (inr p) =
        let e : two ≡ min (min one two) three = omega (arith, p, q) in
        (1, omega arith, subst (IsAhead xs first 1) e (b (omega (arith, e, within))))
