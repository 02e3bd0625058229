-- Segments that are made of kept events.
use Rattle.std.proofs.Common.{◌≡◌, ℕ, zero, suc, ◌+◌, ◌-◌, ◌<◌, ◌≤◌, ◌^◌, List, [], ◌∷◌, ◌++◌, length, drop, get_or, refl, sym, ap, ◌∙◌, subst, arith, length-append}
use Rattle.std.specs.Prelude.{All, ◌==◌, slice_index, true}
use Rattle.std.proofs.lemmas.Bool.Decides.{nat_tests}
use Rattle.std.proofs.lemmas.List.{append-nil}
use Rattle.std.proofs.lemmas.List.Elements.{All-nil, All-cons, filter-append}
use Rattle.entry_model.specs.declared.restored.Live.{Live}
use Rattle.entry_model.specs.Views.{is_evented_table}
use Rattle.event_store.specs.declared.segment.Segment.{Segment}
use Rattle.event_store.specs.declared.segments.Segments.{Segments}
use Rattle.event_store.specs.Queues.{events_of, pushed, placed}
use Rattle.event_store.specs.Segments.{held_at, reach_of, joined, before_all, AreCounted, all_of, live_in, all_live, IsSound}
use Rattle.event_store.specs.Staging.{Closes, AreRestored}
use Rattle.event_store.proofs.Images.{placed_at, length_placed}
use Rattle.event_store.proofs.Chains.{before_is, reach_last}
use Rattle.event_store.proofs.Filling.{AreChained, joined_filled, filled_chained, count_filled, next_chained, next_joined, next_count, of_one}
use Rattle.event_store.proofs.Stages.{three_lists}

abbrev nothing : ℕ → ℕ
nothing table = 0

abbrev chain_of : (number : ℕ) (live : List Live) (parts : List Segment) (tail : Segment) → AreRestored number live parts tail → AreChained 0 nothing (parts ++ tail ∷ [])
chain_of number live parts tail h = record { counted = h.counted; spaced = h.spaced }

-- how far the tail reaches
pub restored_reach : (number : ℕ) (live : List Live) (parts : List Segment) (tail : Segment) → AreRestored number live parts tail → (table : ℕ) → table < 3 → reach_of table tail ≤ number
restored_reach number live parts tail h table lt =
    let a = reach_last table 0 parts tail (h.counted table lt) in
    let b = h.most table lt in
    omega (arith, a, b)

-- the number is within the tail
pub stays : (last number : ℕ) (live : List Live) (parts : List Segment) (tail : Segment) → number ≤ tail.end → last < number → AreRestored last live parts tail → AreRestored (number - 1) live parts tail
stays last number live parts tail within later h = record {
  counted = h.counted;
  spaced = h.spaced;
  events = h.events;
  most = λ table lt. (let a = h.most table lt in omega (arith, a, later));
  room = omega (arith, within);
  few = (let a = h.few in omega (arith, a, later));
  three = h.three;
}

-- the tail was closed
pub goes_on : (last number : ℕ) (live : List Live) (parts new : List Segment) (tail next : Segment) → Closes parts tail number new next → last < number → AreRestored last live parts tail → AreRestored (number - 1) live new next
goes_on last number live parts new tail next c later h =
    let chained = chain_of last live parts tail h in
    let all : new ++ next ∷ [] ≡ (parts ++ tail ∷ []) ++ next ∷ [] = ap (λ (xs : List Segment). xs ++ next ∷ []) c.parts in
    let more = subst (AreChained 0 nothing) (sym all) (next_chained 0 nothing parts tail next chained c.before c.beyond c.held) in
    record {
      counted = more.counted;
      spaced = more.spaced;
      events = λ table lt. ap (joined table) all ∙ next_joined 0 nothing parts tail next chained c.before c.beyond c.held table ∙ h.events table lt;
      most = λ table lt. (let a = ap length (ap (joined table) all ∙ next_joined 0 nothing parts tail next chained c.before c.beyond c.held table) in let b = h.most table lt in omega (arith, a, b, later));
      room = (let a = c.holds in omega (arith, a));
      few = (let a = c.ends in let b = next_count 0 nothing parts tail next chained c.before c.beyond c.held in omega (arith, a, b, later));
      three = ap length c.held;
    }

-- one event more
pub restored_more : (number : ℕ) (live : List Live) (parts : List Segment) (tail : Segment) (event : Live) → 0 < event.number → event.number ≤ tail.end → AreRestored (event.number - 1) live parts tail → AreRestored event.number (live ++ event ∷ []) parts (record tail { held = pushed tail.held event })
restored_more number live parts tail event some within h =
    let chained = chain_of (event.number - 1) live parts tail h in
    let known = All-cons (λ (e : Live). e.number ≤ tail.end) event [] within (All-nil (λ (e : Live). e.number ≤ tail.end)) in
    let more = filled_chained 0 nothing parts tail (event ∷ []) chained h.three known in
    record {
      counted = more.counted;
      spaced = more.spaced;
      events = λ table lt. joined_filled 0 nothing parts tail (event ∷ []) chained h.three table lt ∙ ap (λ (es : List Live). es ++ events_of (event ∷ []) table) (h.events table lt) ∙ sym (filter-append (λ (e : Live). e.table.0 == table) live (event ∷ []));
      most = λ table lt. (let a = ap length (joined_filled 0 nothing parts tail (event ∷ []) chained h.three table lt) in let b = length-append (joined table (parts ++ tail ∷ [])) (events_of (event ∷ []) table) in let c = of_one (event ∷ []) table in let d = h.most table lt in omega (arith, a, b, c, d, some));
      room = within;
      few = (let a = count_filled 0 nothing parts tail (event ∷ []) chained h.three in let b = h.few in omega (arith, a, b, some));
      three = length_placed tail.held (event ∷ []) ∙ h.three;
    }

pub three_in : (number : ℕ) (live : List Live) (parts : List Segment) (tail : Segment) → AreRestored number live parts tail → (table : ℕ) → is_evented_table table ≡ true → table < length tail.held
three_in number live parts tail h table is =
    let low : table < 3 = grind (arith, nat_tests, is) in
    let three = h.three in
    omega (arith, low, three)

-- the segments as a whole
module _ (s : Segments) (live : List Live) (first : s.first ≡ 0 ∷ 0 ∷ 0 ∷ []) (small : s.last ≤ 2 ^ 62) (room : s.last + 1 ≤ s.tail.end) (h : AreRestored s.last live s.parts.items s.tail) where
  none_before : (table : ℕ) → table < 3 → before_all table (all_of s) ≡ 0
  none_before table lt = before_is table 0 s.parts.items s.tail (h.counted table lt)

  first_none : (table : ℕ) → slice_index s.first table ≡ 0
  first_none table = ap (λ (fs : List ℕ). slice_index fs table) first ∙ none table
    where
      none : (k : ℕ) → get_or {A = ℕ} (0 ∷ 0 ∷ 0 ∷ []) k 0 ≡ 0
      none zero = refl
      none (suc zero) = refl
      none (suc (suc zero)) = refl
      none (suc (suc (suc k))) = refl

  pub restored_sound : IsSound s
  restored_sound = record {
    three = ap length first;
    segments = record {
      counted = λ table lt. subst (λ (n : ℕ). AreCounted table n (all_of s)) (sym (none_before table lt)) (h.counted table lt);
      spaced = h.spaced;
      unfilled = omega (arith, room);
      few = h.few;
    };
    held = λ table lt. (let a = none_before table lt in omega (arith, a));
    within = λ table lt. (let a = first_none table in omega (arith, a));
    most = λ table lt. (let a = none_before table lt in let b = h.most table lt in omega (arith, a, b));
    last = small;
  }

  restored_at : (table : ℕ) → table < 3 → live_in s table ≡ get_or (placed ([] ∷ [] ∷ [] ∷ []) live) table []
  restored_at table lt =
      let gone : slice_index s.first table - before_all table (all_of s) ≡ 0 = (let a = first_none table in omega (arith, a)) in
      ap (λ (n : ℕ). drop n (joined table (all_of s))) gone ∙ h.events table lt ∙ sym (placed_at ([] ∷ [] ∷ [] ∷ []) live table lt ∙ ap (λ (es : List Live). es ++ events_of live table) (none table))
    where
      none : (k : ℕ) → get_or {A = List Live} ([] ∷ [] ∷ [] ∷ []) k [] ≡ []
      none zero = refl
      none (suc zero) = refl
      none (suc (suc zero)) = refl
      none (suc (suc (suc k))) = refl

  pub restored_live : all_live s ≡ placed ([] ∷ [] ∷ [] ∷ []) live
  restored_live =
      let none = restored_at 0 (omega arith) in
      let one = restored_at 1 (omega arith) in
      let two = restored_at 2 (omega arith) in
      (λ i. none i ∷ one i ∷ two i ∷ []) ∙ sym (three_lists (placed ([] ∷ [] ∷ [] ∷ []) live) (length_placed ([] ∷ [] ∷ [] ∷ []) live))

-- the empty tail
pub restored_none : (tail : Segment) → tail.end ≡ 256 → tail.before ≡ 0 ∷ 0 ∷ 0 ∷ [] → tail.held ≡ [] ∷ [] ∷ [] ∷ [] → AreRestored 0 [] [] tail
restored_none tail end before held = record {
  counted = λ table lt. (ap (λ (ns : List ℕ). slice_index ns table) before ∙ zeros table, tt);
  spaced = (omega (arith, end), (λ table lt. subst (All (λ (e : Live). e.number ≤ tail.end)) (sym (empty table)) (All-nil (λ (e : Live). e.number ≤ tail.end))), tt);
  events = λ table lt. append-nil (held_at tail table) ∙ empty table;
  most = λ table lt. (let a = ap length (append-nil (held_at tail table) ∙ empty table) in omega (arith, a));
  room = omega (arith, end);
  few = (let a = ap length (empty 0) in let b = ap length (empty 1) in let c = ap length (empty 2) in omega (arith, a, b, c, end));
  three = ap length held;
}
  where
    zeros : (k : ℕ) → get_or {A = ℕ} (0 ∷ 0 ∷ 0 ∷ []) k 0 ≡ 0
    zeros zero = refl
    zeros (suc zero) = refl
    zeros (suc (suc zero)) = refl
    zeros (suc (suc (suc k))) = refl

    none : (k : ℕ) → get_or {A = List Live} ([] ∷ [] ∷ [] ∷ []) k [] ≡ []
    none zero = refl
    none (suc zero) = refl
    none (suc (suc zero)) = refl
    none (suc (suc (suc k))) = refl

    empty : (table : ℕ) → held_at tail table ≡ []
    empty table = ap (λ (qs : List (List Live)). get_or qs table []) held ∙ none table
