-- Segments that are made behind others.
use Rattle.std.proofs.Common.{◌≡◌, ◌^◌, Result, Ok, Err, ℕ, zero, suc, ◌+◌, ◌-◌, ◌<◌, ◌≤◌, List, [], ◌∷◌, ◌++◌, length, take, drop, get_or, refl, sym, ap, ◌∙◌, subst, arith, append_assoc, length-append}
use Rattle.std.specs.Prelude.{All, ◌==◌, slice_index, OnOk, OnErr}
use Rattle.std.proofs.lemmas.List.{append-nil, take-append-drop, take_all, drop-append-le, length-drop, length-take-le}
use Rattle.std.proofs.lemmas.List.Elements.{All-nil, filter-append}
use Rattle.osq_value.specs.declared.value.Event.{Event}
use Rattle.entry_model.specs.declared.restored.Live.{Live}
use Rattle.event_store.specs.declared.segment.Segment.{Segment}
use Rattle.event_store.specs.declared.segments.Segments.{Segments}
use Rattle.event_store.specs.declared.placing.Staged.{Staged}
use Rattle.event_store.specs.Queues.{events_of, new_events, placed}
use Rattle.event_store.specs.Segments.{held_at, count_of, reach_of, joined, before_all, AreCounted, AreSpaced, AreSegments, filled, next_to, all_of, live_in, all_live, IsSound}
use Rattle.event_store.specs.Staging.{StagesRange}
use Rattle.event_store.proofs.Images.{placed_at, length_placed}
use Rattle.event_store.proofs.Chains.{joined_append, counted_both, before_is, reach_last, spaced_both, end_push}
use Rattle.event_store.proofs.Filling.{AreChained, joined_filled, filled_chained, count_filled, next_counted, next_chained, next_joined, next_count, next_reach, new_known, new_append, length_new, placed_few, of_one}

abbrev both : List Segment → Segment → List Segment
both parts tail = parts ++ tail ∷ []

-- a tail with room for these events
pub record Fills (start last : ℕ) (before : ℕ → ℕ) (parts : List Segment) (old new : Segment) (events : List Event) (moment : ℕ) : Type 0 where
  pub chained : AreChained start before (both parts new)
  pub joined : (table : ℕ) → table < 3 → joined table (both parts new) ≡ joined table (both parts old) ++ events_of (new_events last moment events) table
  pub few : count_of new + new.end ≤ last + length events + 256

fills : (start last : ℕ) (before : ℕ → ℕ) (parts : List Segment) (tail : Segment) (events : List Event) (moment : ℕ) → AreChained start before (both parts tail) → length tail.held ≡ 3 → count_of tail + tail.end ≤ last + 256 → last + length events ≤ tail.end → Fills start last before parts tail (filled tail (new_events last moment events)) events moment
fills start last before parts tail events moment chained three few within =
    let new = new_events last moment events in
    let count = length_new last moment events in
    let more = count_filled start before parts tail new chained three in
    record {
      chained = filled_chained start before parts tail new chained three (new_known last moment tail.end events within);
      joined = joined_filled start before parts tail new chained three;
      few = omega (arith, count, more, few);
    }

abbrev chain_of : (start last : ℕ) (before : ℕ → ℕ) (parts : List Segment) (tail : Segment) → AreSegments start last before parts tail → AreChained start before (both parts tail)
chain_of start last before parts tail h = record { counted = h.counted; spaced = h.spaced }

-- all events have room in the tail
pub filled_all : (start last until moment : ℕ) (before : ℕ → ℕ) (parts : List Segment) (tail : Segment) (queues : List (List Live)) (events : List Event) → AreSegments start last before parts tail → length tail.held ≡ 3 → until ≡ last + length events → until < tail.end → queues ≡ placed tail.held (new_events last moment (take (until - last) events)) → AreSegments start until before parts (record tail { held = queues })
filled_all start last until moment before parts tail queues events h three is within placing =
    let all : take (until - last) events ≡ events = take_all (until - last) events (omega (arith, is)) in
    let same : queues ≡ placed tail.held (new_events last moment events) = placing ∙ ap (λ (es : List Event). placed tail.held (new_events last moment es)) all in
    let f = fills start last before parts tail events moment (chain_of start last before parts tail h) three h.few (omega (arith, is, within)) in
    let few = f.few in
    subst (λ (qs : List (List Live)). AreSegments start until before parts (record tail { held = qs })) (sym same) (record {
      counted = f.chained.counted;
      spaced = f.chained.spaced;
      unfilled = within;
      few = omega (arith, few, is);
    })

pub joined_all : (start last until moment : ℕ) (before : ℕ → ℕ) (parts : List Segment) (tail : Segment) (queues : List (List Live)) (events : List Event) → AreSegments start last before parts tail → length tail.held ≡ 3 → until ≡ last + length events → until ≤ tail.end → queues ≡ placed tail.held (new_events last moment (take (until - last) events)) → (table : ℕ) → table < 3 → joined table (both parts (record tail { held = queues })) ≡ joined table (both parts tail) ++ events_of (new_events last moment events) table
joined_all start last until moment before parts tail queues events h three is within placing table lt =
    let all : take (until - last) events ≡ events = take_all (until - last) events (omega (arith, is)) in
    let same : queues ≡ placed tail.held (new_events last moment events) = placing ∙ ap (λ (es : List Event). placed tail.held (new_events last moment es)) all in
    let f = fills start last before parts tail events moment (chain_of start last before parts tail h) three h.few (omega (arith, is, within)) in
    ap (λ (qs : List (List Live)). joined table (both parts (record tail { held = qs }))) same ∙ f.joined table lt

-- what comes later is joined behind
pub later_joined : (last count moment table : ℕ) (so_far : List Live) (events : List Event) → count ≤ length events → (so_far ++ events_of (new_events last moment (take count events)) table) ++ events_of (new_events (last + count) moment (drop count events)) table ≡ so_far ++ events_of (new_events last moment events) table
later_joined last count moment table so_far events within =
    let front = new_events last moment (take count events) in
    let back = new_events (last + count) moment (drop count events) in
    let long : last + length (take count events) ≡ last + count = ap (λ (n : ℕ). last + n) (length-take-le count events within) in
    append_assoc so_far (events_of front table) (events_of back table)
    ∙ ap (λ (es : List Live). so_far ++ es) (sym (filter-append (λ (event : Live). event.table.0 == table) front back))
    ∙ ap (λ (es : List Live). so_far ++ events_of es table) (ap (λ (n : ℕ). front ++ new_events n moment (drop count events)) (sym long) ∙ sym (new_append last moment (take count events) (drop count events)) ∙ ap (new_events last moment) (take-append-drop count events))

-- a whole range is staged
module _ (start last moment : ℕ) (before : ℕ → ℕ) (old new : Staged) (events : List Event) (h : AreSegments start last before old.parts.items old.tail) (held : old.tail.held ≡ [] ∷ [] ∷ [] ∷ []) (end : old.tail.end ≡ last + 256) (reach : (table : ℕ) → table < 3 → reach_of table old.tail ≤ last) (enough : 256 ≤ length events) (stages : StagesRange old (new_events last moment (take 256 events)) new) where
  abbrev range : List Event
  range = take 256 events

  abbrev full : Segment
  full = filled old.tail (new_events last moment (take 256 events))

  long : length (take 256 events) ≡ 256
  long = length-take-le 256 events enough

  three : length old.tail.held ≡ 3
  three = ap length held

  f : Fills start last before old.parts.items old.tail (filled old.tail (new_events last moment (take 256 events))) (take 256 events) moment
  f = fills start last before old.parts.items old.tail (take 256 events) moment (chain_of start last before old.parts.items old.tail h) three h.few (let a = long in omega (arith, a, end))

  all_is : both new.parts.items new.tail ≡ (old.parts.items ++ filled old.tail (new_events last moment (take 256 events)) ∷ []) ++ next_to (filled old.tail (new_events last moment (take 256 events))) ∷ []
  all_is = λ i. stages.parts i ++ stages.tail i ∷ []

  chained : AreChained start before (both new.parts.items new.tail)
  chained = subst (AreChained start before) (sym all_is) (next_chained start before old.parts.items full (next_to full) f.chained refl (omega arith) refl)

  pub staged_held : new.tail.held ≡ [] ∷ [] ∷ [] ∷ []
  staged_held = ap (λ (s : Segment). s.held) stages.tail

  pub staged_end : new.tail.end ≡ last + 256 + 256
  staged_end = ap (λ (s : Segment). s.end) stages.tail ∙ ap (λ (n : ℕ). n + 256) end

  pub staged_segments : AreSegments start (last + 256) before new.parts.items new.tail
  staged_segments = record {
    counted = chained.counted;
    spaced = chained.spaced;
    unfilled = (let a = staged_end in omega (arith, a));
    few = (let a = staged_end in let b = ap count_of stages.tail in let c = next_count start before old.parts.items full (next_to full) f.chained refl (omega arith) refl in omega (arith, a, b, c));
  }

  pub staged_joined : (table : ℕ) → table < 3 → joined table (both new.parts.items new.tail) ++ events_of (new_events (last + 256) moment (drop 256 events)) table ≡ joined table (both old.parts.items old.tail) ++ events_of (new_events last moment events) table
  staged_joined table lt =
      ap (λ (es : List Live). es ++ events_of (new_events (last + 256) moment (drop 256 events)) table) (ap (joined table) all_is ∙ next_joined start before old.parts.items full (next_to full) f.chained refl (omega arith) refl table ∙ f.joined table lt)
      ∙ later_joined last 256 moment table (joined table (both old.parts.items old.tail)) events enough

  pub staged_reach : (table : ℕ) → table < 3 → reach_of table new.tail ≤ last + 256
  staged_reach table lt =
      let a = ap (reach_of table) stages.tail in
      let b = next_reach start before old.parts.items full (next_to full) f.chained refl (omega arith) refl table lt in
      let c = reach_last table (before table) old.parts.items full (f.chained.counted table lt) in
      let d = placed_few old.tail.held (new_events last moment (take 256 events)) table in
      let e = length_new last moment (take 256 events) in
      let n = long in
      let r = reach table lt in
      omega (arith, a, b, c, d, e, n, r)

pub none_in : (empty : Segment) → empty.held ≡ [] ∷ [] ∷ [] ∷ [] → (table : ℕ) → held_at empty table ≡ []
none_in empty held table = ap (λ (qs : List (List Live)). get_or qs table []) held ∙ none table
  where
    none : (k : ℕ) → get_or {A = List Live} ([] ∷ [] ∷ [] ∷ []) k [] ≡ []
    none zero = refl
    none (suc zero) = refl
    none (suc (suc zero)) = refl
    none (suc (suc (suc k))) = refl

-- the first empty segment
pub first_staged : (last : ℕ) (empty : Segment) → empty.held ≡ [] ∷ [] ∷ [] ∷ [] → empty.end ≡ last + 256 → AreSegments last last (λ table. slice_index empty.before table) [] empty
first_staged last empty held end = record {
  counted = λ table lt. (refl, tt);
  spaced = ((omega (arith, end)), (λ table lt. subst (All (λ (event : Live). event.number ≤ empty.end)) (sym (none_in empty held table)) (All-nil (λ (event : Live). event.number ≤ empty.end))), tt);
  unfilled = omega (arith, end);
  few = (let a = ap length (none_in empty held 0) in let b = ap length (none_in empty held 1) in let c = ap length (none_in empty held 2) in omega (arith, a, b, c, end));
}

pub first_joined : (table : ℕ) (empty : Segment) → empty.held ≡ [] ∷ [] ∷ [] ∷ [] → joined table ([] ++ empty ∷ []) ≡ []
first_joined table empty held = append-nil (held_at empty table) ∙ none_in empty held table

pub on_ok : {T E : Type 0} {P Q : Type 0} (r : Result T E) → (P → Q) → OnOk r P → OnOk r Q
on_ok (Ok x) f h = f h
on_ok (Err e) f h = tt

pub on_err : {T E : Type 0} {P Q : Type 0} (r : Result T E) → (P → Q) → OnErr r P → OnErr r Q
on_err (Ok x) f h = tt
on_err (Err e) f h = f h

pub always_err : {T E : Type 0} {P : Type 0} (r : Result T E) → P → OnErr r P
always_err (Ok x) h = tt
always_err (Err e) h = h

-- how many events there were up to a filled tail
pub reach_filled : (last moment : ℕ) (tail : Segment) (queues : List (List Live)) (events : List Event) (table : ℕ) → reach_of table tail ≤ last → last ≤ tail.end → queues ≡ placed tail.held (new_events last moment (take (tail.end - last) events)) → tail.end - last ≤ length events → reach_of table (record tail { held = queues }) ≤ tail.end
reach_filled last moment tail queues events table reach room placing enough =
    let a = ap (λ (qs : List (List Live)). length (get_or qs table [])) placing in
    let b = placed_few tail.held (new_events last moment (take (tail.end - last) events)) table in
    let c = length_new last moment (take (tail.end - last) events) in
    let d = length-take-le (tail.end - last) events enough in
    omega (arith, a, b, c, d, reach, room)

pub counts_next : (tail next : Segment) → next ≡ next_to tail → (table : ℕ) → table < 3 → slice_index next.before table ≡ reach_of table tail
counts_next tail next is table lt = ap (λ (s : Segment). slice_index s.before table) is ∙ by_table table lt
  where
    by_table : (k : ℕ) → k < 3 → get_or (reach_of 0 tail ∷ reach_of 1 tail ∷ reach_of 2 tail ∷ []) k 0 ≡ reach_of k tail
    by_table zero lt = refl
    by_table (suc zero) lt = refl
    by_table (suc (suc zero)) lt = refl
    by_table (suc (suc (suc k))) lt = absurd (omega (arith, lt))

-- the tail is filled and closed, and fresh segments stand behind it
module _ (last moment : ℕ) (before : ℕ → ℕ) (parts : List Segment) (tail : Segment) (queues : List (List Live)) (events rest : List Event) (next : Segment) (staged : Staged) (new_parts : List Segment) (new_tail : Segment) (h : AreSegments 0 last before parts tail) (three : length tail.held ≡ 3) (enough : tail.end ≤ last + length events) (placing : queues ≡ placed tail.held (new_events last moment (take (tail.end - last) events))) (rest_is : rest ≡ drop (tail.end - last) events) (next_is : next ≡ next_to (record tail { held = queues })) (segments : AreSegments tail.end (tail.end + length rest) (λ (table : ℕ). slice_index next.before table) staged.parts.items staged.tail) (joins : (table : ℕ) → table < 3 → joined table (staged.parts.items ++ staged.tail ∷ []) ≡ events_of (new_events tail.end moment rest) table) (parts_is : new_parts ≡ parts ++ (record tail { held = queues }) ∷ staged.parts.items) (tail_is : new_tail ≡ staged.tail) where
  count : ℕ
  count = tail.end - last

  room : last ≤ tail.end
  room = (let a = h.unfilled in omega (arith, a))

  abbrev filled_tail : Segment
  filled_tail = filled tail (new_events last moment (take (tail.end - last) events))

  tail_full : (record tail { held = queues }) ≡ filled_tail
  tail_full = λ i. record tail { held = placing i }

  fit : Fills 0 last before parts tail (filled tail (new_events last moment (take (tail.end - last) events))) (take (tail.end - last) events) moment
  fit = fills 0 last before parts tail (take (tail.end - last) events) moment (chain_of 0 last before parts tail h) three h.few (let a = length-take-le (tail.end - last) events (omega (arith, enough)) in let b = room in omega (arith, a, b))

  closed : List Segment
  closed = parts ++ filled tail (new_events last moment (take (tail.end - last) events)) ∷ []

  whole : new_parts ++ new_tail ∷ [] ≡ (parts ++ filled tail (new_events last moment (take (tail.end - last) events)) ∷ []) ++ (staged.parts.items ++ staged.tail ∷ [])
  whole =
      (λ i. parts_is i ++ tail_is i ∷ [])
      ∙ (λ i. (parts ++ tail_full i ∷ staged.parts.items) ++ staged.tail ∷ [])
      ∙ append_assoc parts (filled_tail ∷ staged.parts.items) (staged.tail ∷ [])
      ∙ sym (append_assoc parts (filled_tail ∷ []) (staged.parts.items ++ staged.tail ∷ []))

  next_counts : (table : ℕ) → table < 3 → slice_index next.before table ≡ before table + length (joined table (parts ++ filled tail (new_events last moment (take (tail.end - last) events)) ∷ []))
  next_counts table lt =
      ap (λ (s : Segment). slice_index s.before table) (next_is ∙ (λ i. next_to (tail_full i)))
      ∙ next_counted 0 before parts filled_tail (next_to filled_tail) fit.chained refl (omega arith) refl table lt

  pub behind_segments : AreSegments 0 (last + length events) before new_parts new_tail
  behind_segments =
      let left = ap length rest_is in
      let long = length-drop (tail.end - last) events in
      let low = room in
      let end = ap (λ (s : Segment). s.end) tail_is in
      let size = ap (λ (s : Segment). count_of s + s.end) tail_is in
      let unfilled = segments.unfilled in
      let few = segments.few in
      record {
        counted = λ table lt. subst (AreCounted table (before table)) (sym whole) (counted_both table (before table) (parts ++ filled_tail ∷ []) (staged.parts.items ++ staged.tail ∷ []) (fit.chained.counted table lt) (subst (λ (n : ℕ). AreCounted table n (staged.parts.items ++ staged.tail ∷ [])) (next_counts table lt) (segments.counted table lt)));
        spaced = subst (AreSpaced 0) (sym whole) (spaced_both 0 (parts ++ filled_tail ∷ []) (staged.parts.items ++ staged.tail ∷ []) fit.chained.spaced (subst (λ (n : ℕ). AreSpaced n (staged.parts.items ++ staged.tail ∷ [])) (sym (end_push 0 parts filled_tail)) segments.spaced));
        unfilled = omega (arith, left, long, low, end, unfilled, enough);
        few = omega (arith, left, long, low, size, few, enough);
      }

  pub behind_joined : (table : ℕ) → table < 3 → joined table (new_parts ++ new_tail ∷ []) ≡ joined table (parts ++ tail ∷ []) ++ events_of (new_events last moment events) table
  behind_joined table lt =
      let at : last + (tail.end - last) ≡ tail.end = (let a = room in omega (arith, a)) in
      ap (joined table) whole
      ∙ joined_append table (parts ++ filled_tail ∷ []) (staged.parts.items ++ staged.tail ∷ [])
      ∙ (λ i. fit.joined table lt i ++ joins table lt i)
      ∙ (λ i. (joined table (parts ++ tail ∷ []) ++ events_of (new_events last moment (take (tail.end - last) events)) table) ++ events_of (new_events (sym at i) moment (rest_is i)) table)
      ∙ later_joined last (tail.end - last) moment table (joined table (parts ++ tail ∷ [])) events (omega (arith, enough))

pub three_lists : (lists : List (List Live)) → length lists ≡ 3 → lists ≡ get_or lists 0 [] ∷ get_or lists 1 [] ∷ get_or lists 2 [] ∷ []
three_lists (a ∷ b ∷ c ∷ []) h = refl
three_lists [] h = absurd (omega (arith, h))
three_lists (a ∷ []) h = absurd (omega (arith, h))
three_lists (a ∷ b ∷ []) h = absurd (omega (arith, h))
three_lists (a ∷ b ∷ c ∷ d ∷ rest) h = absurd (omega (arith, h))

-- what the segments hold after events are added
module _ (s new : Segments) (moment : ℕ) (events : List Event) (sound : IsSound s) (small : s.last + length events ≤ 2 ^ 62) (last : new.last ≡ s.last + length events) (first : new.first ≡ s.first) (segments : AreSegments 0 (s.last + length events) (λ (table : ℕ). before_all table (all_of s)) new.parts.items new.tail) (joins : (table : ℕ) → table < 3 → joined table (all_of new) ≡ joined table (all_of s) ++ events_of (new_events s.last moment events) table) where
  added_before : (table : ℕ) → table < 3 → before_all table (all_of new) ≡ before_all table (all_of s)
  added_before table lt = before_is table (before_all table (all_of s)) new.parts.items new.tail (segments.counted table lt)

  added_few : (table : ℕ) → table < 3 → length (joined table (all_of new)) ≤ length (joined table (all_of s)) + length events
  added_few table lt =
      let a = ap length (joins table lt) in
      let b = length-append (joined table (all_of s)) (events_of (new_events s.last moment events) table) in
      let c = of_one (new_events s.last moment events) table in
      let d = length_new s.last moment events in
      omega (arith, a, b, c, d)

  added_more : (table : ℕ) → table < 3 → length (joined table (all_of s)) ≤ length (joined table (all_of new))
  added_more table lt =
      let a = ap length (joins table lt) in
      let b = length-append (joined table (all_of s)) (events_of (new_events s.last moment events) table) in
      omega (arith, a, b)

  pub added_sound : IsSound new
  added_sound = record {
    three = ap length first ∙ sound.three;
    segments = record {
      counted = λ table lt. subst (λ (n : ℕ). AreCounted table n (all_of new)) (sym (added_before table lt)) (segments.counted table lt);
      spaced = segments.spaced;
      unfilled = (let a = segments.unfilled in omega (arith, a, last));
      few = (let a = segments.few in omega (arith, a, last));
    };
    held = λ table lt. (let a = added_before table lt in let b = sound.held table lt in let c = ap (λ (fs : List ℕ). slice_index fs table) first in omega (arith, a, b, c));
    within = λ table lt. (let a = added_before table lt in let b = sound.within table lt in let c = ap (λ (fs : List ℕ). slice_index fs table) first in let d = added_more table lt in omega (arith, a, b, c, d));
    most = λ table lt. (let a = added_before table lt in let b = sound.most table lt in let d = added_few table lt in omega (arith, a, b, d, last));
    last = omega (arith, small, last);
  }

  added_at : (table : ℕ) → table < 3 → live_in new table ≡ live_in s table ++ events_of (new_events s.last moment events) table
  added_at table lt =
      (λ i. drop (slice_index (first i) table - added_before table lt i) (joins table lt i))
      ∙ drop-append-le (slice_index s.first table - before_all table (all_of s)) (joined table (all_of s)) (events_of (new_events s.last moment events) table) (let a = sound.within table lt in omega (arith, a))

  pub added_live : all_live new ≡ placed (all_live s) (new_events s.last moment events)
  added_live =
      let es = new_events s.last moment events in
      let none = added_at 0 (omega arith) ∙ sym (placed_at (all_live s) es 0 (omega arith)) in
      let one = added_at 1 (omega arith) ∙ sym (placed_at (all_live s) es 1 (omega arith)) in
      let two = added_at 2 (omega arith) ∙ sym (placed_at (all_live s) es 2 (omega arith)) in
      (λ i. none i ∷ one i ∷ two i ∷ []) ∙ sym (three_lists (placed (all_live s) es) (length_placed (all_live s) es))
