-- Segments of which the first ones are left out.
use Rattle.std.proofs.Common.{◌≡◌, ℕ, zero, suc, ◌+◌, ◌-◌, ◌<◌, ◌≤◌, ◌≢◌, ◌⊎◌, inl, inr, List, [], ◌∷◌, ◌++◌, length, map, take, drop, set, refl, sym, ap, ◌∙◌, subst, arith, length-append}
use Rattle.std.specs.Prelude.{slice_index}
use Rattle.std.proofs.lemmas.Bool.{cases_eq}
use Rattle.std.proofs.lemmas.List.{take-append-drop, take-append-le, drop-append-le, drop-drop, drop_at, length-drop, length-set, get_or-set_same, get_or-set_other}
use Rattle.entry_model.specs.declared.restored.Live.{Live}
use Rattle.event_store.specs.declared.segment.Segment.{Segment}
use Rattle.event_store.specs.declared.segments.Segments.{Segments}
use Rattle.event_store.specs.Queues.{above}
use Rattle.event_store.specs.Segments.{count_of, joined, before_all, AreCounted, AreSpaced, all_of, live_in, all_live, IsSound, IsFirstAbove}
use Rattle.event_store.proofs.Chains.{joined_append, counted_drop, before_is, spaced_drop}

-- where the first segments hold no event from this place on
pub record Keeps (table first : ℕ) (old new : List Segment) : Type 0 where
  pub counted : AreCounted table (before_all table new) new
  pub total : before_all table new + length (joined table new) ≡ before_all table old + length (joined table old)
  pub held : before_all table new ≤ first
  pub same : drop (first - before_all table new) (joined table new) ≡ drop (first - before_all table old) (joined table old)

pub keeps_drop : (table first k : ℕ) (xs : List Segment) (x : Segment) → AreCounted table (before_all table (xs ++ x ∷ [])) (xs ++ x ∷ []) → before_all table (xs ++ x ∷ []) ≤ first → k ≤ length xs → before_all table xs + length (joined table (take k xs)) ≤ first → Keeps table first (xs ++ x ∷ []) (drop k xs ++ x ∷ [])
keeps_drop table first zero xs x h held within low = record { counted = h; total = refl; held = held; same = refl }
keeps_drop table first (suc k) [] x h held within low = absurd (omega (arith, within))
keeps_drop table first (suc k) (y ∷ ys) x h held within low =
    let xs : List Segment = y ∷ ys in
    let before = before_all table xs in
    let gone = joined table (take (suc k) xs) in
    let rest = drop (suc k) xs ++ x ∷ [] in
    let front : take (suc k) (xs ++ x ∷ []) ≡ take (suc k) xs = take-append-le (suc k) xs (x ∷ []) within in
    let back : drop (suc k) (xs ++ x ∷ []) ≡ rest = drop-append-le (suc k) xs (x ∷ []) within in
    let counted : AreCounted table (before + length gone) rest = subst (AreCounted table (before + length gone)) back (subst (λ (zs : List Segment). AreCounted table (before + length (joined table zs)) (drop (suc k) (xs ++ x ∷ []))) front (counted_drop table before (suc k) (xs ++ x ∷ []) h)) in
    let is : before_all table rest ≡ before + length gone = before_is table (before + length gone) (drop (suc k) xs) x counted in
    let whole : joined table (xs ++ x ∷ []) ≡ gone ++ joined table rest = ap (joined table) (sym (take-append-drop (suc k) (xs ++ x ∷ []))) ∙ joined_append table (take (suc k) (xs ++ x ∷ [])) (drop (suc k) (xs ++ x ∷ [])) ∙ (λ i. joined table (front i) ++ joined table (back i)) in
    let total = ap length whole in
    let step : first - before ≡ length gone + (first - before_all table rest) = omega (arith, is, low) in
    record {
      counted = subst (λ (n : ℕ). AreCounted table n rest) (sym is) counted;
      total = omega (arith, is, total, length-append gone (joined table rest));
      held = omega (arith, is, low);
      same = ap (drop (first - before_all table rest)) (sym (drop_at gone (joined table rest) (length gone) refl)) ∙ drop-drop (first - before_all table rest) (length gone) (gone ++ joined table rest) ∙ (λ i. drop (sym step i) (sym whole i));
    }

-- others are the first, and the first segments, which have none from there on, are left out
pub record Moves (s : Segments) (first : List ℕ) (k : ℕ) : Type 0 where
  pub three : length first ≡ 3
  pub within : k ≤ length s.parts.items
  pub later : (table : ℕ) → table < 3 → slice_index s.first table ≤ slice_index first table
  pub known : (table : ℕ) → table < 3 → slice_index first table ≤ before_all table (all_of s) + length (joined table (all_of s))
  pub behind : (table : ℕ) → table < 3 → before_all table s.parts.items + length (joined table (take k s.parts.items)) ≤ slice_index first table

module _ (s new : Segments) (k : ℕ) (sound : IsSound s) (moves : Moves s new.first k) (last : new.last ≡ s.last) (parts : new.parts.items ≡ drop k s.parts.items) (tail : new.tail ≡ s.tail) where
  all_is : all_of new ≡ drop k s.parts.items ++ s.tail ∷ []
  all_is = λ i. parts i ++ tail i ∷ []

  keeps : (table : ℕ) → table < 3 → Keeps table (slice_index new.first table) (all_of s) (all_of new)
  keeps table lt =
      let a = sound.held table lt in
      let b = moves.later table lt in
      subst (Keeps table (slice_index new.first table) (all_of s)) (sym all_is) (keeps_drop table (slice_index new.first table) k s.parts.items s.tail (sound.segments.counted table lt) (omega (arith, a, b)) moves.within (moves.behind table lt))

  pub moved_live : (table : ℕ) → table < 3 → live_in new table ≡ drop (slice_index new.first table - before_all table (all_of s)) (joined table (all_of s))
  moved_live table lt = (keeps table lt).same

  pub moved_sound : IsSound new
  moved_sound = record {
    three = moves.three;
    segments = record {
      counted = λ table lt. (keeps table lt).counted;
      spaced = subst (AreSpaced 0) (sym all_is) (spaced_drop k s.parts.items (s.tail ∷ []) sound.segments.spaced);
      unfilled = (let a = sound.segments.unfilled in let b = ap (λ (x : Segment). x.end) tail in omega (arith, a, b, last));
      few = (let a = sound.segments.few in let b = ap (λ (x : Segment). count_of x + x.end) tail in omega (arith, a, b, last));
    };
    held = λ table lt. (keeps table lt).held;
    within = λ table lt. (let a = (keeps table lt).total in let b = moves.known table lt in omega (arith, a, b));
    most = λ table lt. (let a = (keeps table lt).total in let b = sound.most table lt in omega (arith, a, b, last));
    last = (let a = sound.last in omega (arith, a, last));
  }

-- the first of a table after some are gone
pub later_live : (s : Segments) (table n : ℕ) → IsSound s → table < 3 → drop (slice_index s.first table + n - before_all table (all_of s)) (joined table (all_of s)) ≡ drop n (live_in s table)
later_live s table n sound lt =
    let held = sound.held table lt in
    let step : slice_index s.first table + n - before_all table (all_of s) ≡ slice_index s.first table - before_all table (all_of s) + n = omega (arith, held) in
    ap (λ (k : ℕ). drop k (joined table (all_of s))) step ∙ sym (drop-drop n (slice_index s.first table - before_all table (all_of s)) (joined table (all_of s)))

pub known_later : (s : Segments) (table n : ℕ) → IsSound s → table < 3 → n ≤ length (live_in s table) → slice_index s.first table + n ≤ before_all table (all_of s) + length (joined table (all_of s))
known_later s table n sound lt few =
    let held = sound.held table lt in
    let within = sound.within table lt in
    let long = length-drop (slice_index s.first table - before_all table (all_of s)) (joined table (all_of s)) in
    omega (arith, held, within, long, few)

-- one of three lists is another
pub set_live : (s new : Segments) (table : ℕ) (live : List Live) → table < 3 → live_in new table ≡ live → ((other : ℕ) → other < 3 → other ≢ table → live_in new other ≡ live_in s other) → all_live new ≡ set (all_live s) table live
set_live s new zero live lt is others =
    let one = others 1 (omega arith) (λ e. absurd (omega (arith, e))) in
    let two = others 2 (omega arith) (λ e. absurd (omega (arith, e))) in
    λ i. is i ∷ one i ∷ two i ∷ []
set_live s new (suc zero) live lt is others =
    let none = others 0 (omega arith) (λ e. absurd (omega (arith, e))) in
    let two = others 2 (omega arith) (λ e. absurd (omega (arith, e))) in
    λ i. none i ∷ is i ∷ two i ∷ []
set_live s new (suc (suc zero)) live lt is others =
    let none = others 0 (omega arith) (λ e. absurd (omega (arith, e))) in
    let one = others 1 (omega arith) (λ e. absurd (omega (arith, e))) in
    λ i. none i ∷ one i ∷ is i ∷ []
set_live s new (suc (suc (suc n))) live lt is others = absurd (omega (arith, lt))

-- the first of one table is moved up
module _ (s new : Segments) (table n k : ℕ) (sound : IsSound s) (lt : table < 3) (first : new.first ≡ set s.first table (slice_index s.first table + n)) where
  first_same : slice_index new.first table ≡ slice_index s.first table + n
  first_same =
      let three = sound.three in
      ap (λ (fs : List ℕ). slice_index fs table) first ∙ get_or-set_same s.first table (slice_index s.first table + n) 0 (omega (arith, three, lt))

  first_other : (other : ℕ) → other ≢ table → slice_index new.first other ≡ slice_index s.first other
  first_other other apart = ap (λ (fs : List ℕ). slice_index fs other) first ∙ get_or-set_other s.first table other (slice_index s.first table + n) 0 apart

  by_table : (P : ℕ → Type 0) → P table → ((other : ℕ) → other ≢ table → P other) → (other : ℕ) → P other
  by_table P here there other = cases (cases_eq other table)
    where
      cases : (other ≡ table) ⊎ (other ≢ table) → P other
      cases (inl e) = subst P (sym e) here
      cases (inr d) = there other d

  pub raises : n ≤ length (live_in s table) → k ≤ length s.parts.items → ((other : ℕ) → other < 3 → before_all other s.parts.items + length (joined other (take k s.parts.items)) ≤ slice_index new.first other) → Moves s new.first k
  raises few within behind = record {
    three = ap length first ∙ length-set s.first table (slice_index s.first table + n) ∙ sound.three;
    within = within;
    later = λ other lo. by_table (λ t. slice_index s.first t ≤ slice_index new.first t) (let a = first_same in omega (arith, a)) (λ t apart. (let a = first_other t apart in omega (arith, a))) other;
    known = λ other lo. by_table (λ t. t < 3 → slice_index new.first t ≤ before_all t (all_of s) + length (joined t (all_of s))) (λ _. (let a = first_same in let b = known_later s table n sound lt few in omega (arith, a, b))) (λ t apart l. (let a = first_other t apart in let b = sound.within t l in omega (arith, a, b))) other lo;
    behind = behind;
  }

  pub raised_live : (live : List Live) → drop n (live_in s table) ≡ live → ((other : ℕ) → other < 3 → live_in new other ≡ drop (slice_index new.first other - before_all other (all_of s)) (joined other (all_of s))) → all_live new ≡ set (all_live s) table live
  raised_live live is moved =
      set_live s new table live lt (moved table lt ∙ ap (λ (f : ℕ). drop (f - before_all table (all_of s)) (joined table (all_of s))) first_same ∙ later_live s table n sound lt ∙ is)
      (λ other lo apart. moved other lo ∙ ap (λ (f : ℕ). drop (f - before_all other (all_of s)) (joined other (all_of s))) (first_other other apart))

pub first_is : (number : ℕ) (s : Segments) (a b c : ℕ) → IsSound s → a ≤ length (live_in s 0) → b ≤ length (live_in s 1) → c ≤ length (live_in s 2) → drop a (live_in s 0) ≡ above number (live_in s 0) → drop b (live_in s 1) ≡ above number (live_in s 1) → drop c (live_in s 2) ≡ above number (live_in s 2) → IsFirstAbove number s ((slice_index s.first 0 + a) ∷ (slice_index s.first 1 + b) ∷ (slice_index s.first 2 + c) ∷ [])
first_is number s a b c sound la lb lc da db dc = record { three = refl; held = held; within = within; live = live }
  where
    first : List ℕ
    first = (slice_index s.first 0 + a) ∷ (slice_index s.first 1 + b) ∷ (slice_index s.first 2 + c) ∷ []

    held : (table : ℕ) → table < 3 → slice_index s.first table ≤ slice_index first table
    held zero lt = omega arith
    held (suc zero) lt = omega arith
    held (suc (suc zero)) lt = omega arith
    held (suc (suc (suc n))) lt = absurd (omega (arith, lt))

    within : (table : ℕ) → table < 3 → slice_index first table ≤ before_all table (all_of s) + length (joined table (all_of s))
    within zero lt = known_later s 0 a sound lt la
    within (suc zero) lt = known_later s 1 b sound lt lb
    within (suc (suc zero)) lt = known_later s 2 c sound lt lc
    within (suc (suc (suc n))) lt = absurd (omega (arith, lt))

    live : (table : ℕ) → table < 3 → drop (slice_index first table - before_all table (all_of s)) (joined table (all_of s)) ≡ above number (live_in s table)
    live zero lt = later_live s 0 a sound lt ∙ da
    live (suc zero) lt = later_live s 1 b sound lt ∙ db
    live (suc (suc zero)) lt = later_live s 2 c sound lt ∙ dc
    live (suc (suc (suc n))) lt = absurd (omega (arith, lt))

-- a slice: what its code knows of the segments that it looked at
module _ (s new : Segments) (number k : ℕ) (sound : IsSound s) (h : IsFirstAbove number s new.first) (ys : List Segment) (same : ys ≡ s.parts.items) (within : k ≤ length ys) (behind : (table : ℕ) → table < 3 → before_all table ys + length (joined table (take k ys)) ≤ slice_index new.first table) (last : new.last ≡ s.last) (shared : new.parts.items ≡ drop k s.parts.items) (tail : new.tail ≡ s.tail) where
  slices : Moves s new.first k
  slices = record {
    three = h.three;
    within = subst (λ (zs : List Segment). k ≤ length zs) same within;
    later = h.held;
    known = h.within;
    behind = subst (λ (zs : List Segment). (table : ℕ) → table < 3 → before_all table zs + length (joined table (take k zs)) ≤ slice_index new.first table) same behind;
  }

  pub sliced_sound : IsSound new
  sliced_sound = moved_sound s new k sound slices last shared tail

  pub sliced_live : all_live new ≡ map (above number) (all_live s)
  sliced_live =
      let none = moved_live s new k sound slices last shared tail 0 (omega arith) ∙ h.live 0 (omega arith) in
      let one = moved_live s new k sound slices last shared tail 1 (omega arith) ∙ h.live 1 (omega arith) in
      let two = moved_live s new k sound slices last shared tail 2 (omega arith) ∙ h.live 2 (omega arith) in
      λ i. none i ∷ one i ∷ two i ∷ []
