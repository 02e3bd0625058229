-- Events that are added to the last of some segments.
use Rattle.std.proofs.Common.{◌≡◌, ◌⊎◌, inl, inr, ℕ, zero, suc, ◌+◌, ◌-◌, ◌<◌, ◌≤◌, Bool, true, false, cond, List, [], ◌∷◌, ◌++◌, length, map, take, drop, get_or, refl, sym, ap, ◌∙◌, subst, arith, append_assoc, length-append}
use Rattle.std.specs.Prelude.{All, ◌==◌, slice_index}
use Rattle.std.proofs.lemmas.Bool.Decides.{nat_tests}
use Rattle.std.proofs.lemmas.List.{append-nil, length-map, length-set, length-take, get_or_past, take-append-le, take_all}
use Rattle.std.proofs.lemmas.List.Elements.{All-nil, All-append, All-filter, All-from_recursion}
use Rattle.osq_value.specs.declared.value.Event.{Event}
use Rattle.entry_model.specs.declared.restored.Live.{Live}
use Rattle.entry_model.specs.Values.{numbered}
use Rattle.entry_model.proofs.Lists.{is_below}
use Rattle.event_store.specs.declared.segment.Segment.{Segment}
use Rattle.event_store.specs.Queues.{events_of, new_events, pushed, placed, IsLonger}
use Rattle.event_store.specs.Segments.{held_at, count_of, reach_of, joined, AreCounted, AreSpaced, filled}
use Rattle.event_store.proofs.Images.{placed_at, pushed_at, length_placed, known_new}
use Rattle.event_store.proofs.Chains.{joined_push, counted_split, counted_both, reach_last, spaced_split, spaced_both, end_push}

-- the next event is taken
module _ (queues : List (List Live)) (number until moment : ℕ) (x : Event) (rest left : List Event) (below : number < until) (is : rest ≡ x ∷ left) where
  step : until - number ≡ suc (until - (number + 1))
  step = omega (arith, below)

  pub taken_events : placed (pushed queues (record { number = number + 1; table = x.table; moment = moment; row = x.row })) (new_events (number + 1) moment (take (until - (number + 1)) left)) ≡ placed queues (new_events number moment (take (until - number) rest))
  taken_events =
      let a : number + 1 ≡ 1 + number = omega arith in
      let b : 1 + (number + 1) ≡ suc (1 + number) = omega arith in
      (λ i. placed (pushed queues (record { number = a i; table = x.table; moment = moment; row = x.row })) (numbered (b i) (map (λ (event : Event). (moment, event)) (take (until - (number + 1)) left))))
      ∙ sym (λ i. placed queues (new_events number moment (take (step i) (is i))))

  pub taken_rest : drop (until - (number + 1)) left ≡ drop (until - number) rest
  taken_rest = sym (λ i. drop (step i) (is i))

longer_at : (old new : List (List Live)) (table : ℕ) → IsLonger old new → length (get_or old table []) ≤ length (get_or new table [])
longer_at old new table h =
    let a = ap length (h.front table) in
    let b = length-take (length (get_or old table [])) (get_or new table []) in
    omega (arith, a, b)

pub longer_pushed : (old new : List (List Live)) (x : Live) → IsLonger old new → IsLonger old (pushed new x)
longer_pushed old new x h = record {
  count = length-set new x.table.0 (get_or new x.table.0 [] ++ x ∷ []) ∙ h.count;
  front = λ table. by_place table (is_below (length new) table);
}
  where
    by_place : (table : ℕ) → (length new ≤ table) ⊎ (table < length new) → take (length (get_or old table [])) (get_or (pushed new x) table []) ≡ get_or old table []
    by_place table (inl past) =
        let long = length-set new x.table.0 (get_or new x.table.0 [] ++ x ∷ []) in
        ap (take (length (get_or old table []))) (get_or_past (pushed new x) table [] (omega (arith, long, past)) ∙ sym (get_or_past new table [] past)) ∙ h.front table
    by_place table (inr within) =
        ap (take (length (get_or old table []))) (pushed_at new x table within)
        ∙ take-append-le (length (get_or old table [])) (get_or new table []) (events_of (x ∷ []) table) (longer_at old new table h)
        ∙ h.front table

pub longer_placed : (old new : List (List Live)) (events : List Live) → IsLonger old new → IsLonger old (placed new events)
longer_placed old new [] h = h
longer_placed old new (x ∷ xs) h = longer_placed old (pushed new x) xs (longer_pushed old new x h)

longer_itself : (queues : List (List Live)) → IsLonger queues queues
longer_itself queues = record { count = refl; front = λ table. take_all (length (get_or queues table [])) (get_or queues table []) (omega arith) }

pub longer_filled : (queues : List (List Live)) (events : List Live) → IsLonger queues (placed queues events)
longer_filled queues events = longer_placed queues queues events (longer_itself queues)

pub length_new : (last moment : ℕ) (events : List Event) → length (new_events last moment events) ≡ length events
length_new last moment events = long (1 + last) events
  where
    long : (n : ℕ) (es : List Event) → length (numbered n (map (λ (event : Event). (moment, event)) es)) ≡ length es
    long n [] = refl
    long n (x ∷ es) = ap suc (long (suc n) es)

pub new_append : (last moment : ℕ) (xs ys : List Event) → new_events last moment (xs ++ ys) ≡ new_events last moment xs ++ new_events (last + length xs) moment ys
new_append last moment xs ys =
    let a : 1 + last + length xs ≡ 1 + (last + length xs) = omega arith in
    go (1 + last) xs ∙ ap (λ (n : ℕ). new_events last moment xs ++ numbered n (map (λ (event : Event). (moment, event)) ys)) a
  where
    go : (n : ℕ) (es : List Event) → numbered n (map (λ (event : Event). (moment, event)) (es ++ ys)) ≡ numbered n (map (λ (event : Event). (moment, event)) es) ++ numbered (n + length es) (map (λ (event : Event). (moment, event)) ys)
    go n [] = (let a : n ≡ n + 0 = omega arith in ap (λ (m : ℕ). numbered m (map (λ (event : Event). (moment, event)) ys)) a)
    go n (x ∷ es) =
        let a : suc n + length es ≡ n + suc (length es) = omega arith in
        ap (λ (rest : List Live). record { number = n; table = x.table; moment = moment; row = x.row } ∷ rest) (go (suc n) es ∙ ap (λ (m : ℕ). numbered (suc n) (map (λ (event : Event). (moment, event)) es) ++ numbered m (map (λ (event : Event). (moment, event)) ys)) a)

-- each event is of at most one of the tables
pub of_tables : (events : List Live) → length (events_of events 0) + length (events_of events 1) + length (events_of events 2) ≤ length events
of_tables [] = omega arith
of_tables (x ∷ xs) =
    let rest = of_tables xs in
    by_table (x.table.0 == 0) (x.table.0 == 1) (x.table.0 == 2) refl refl refl rest
  where
    by_table : (a b c : Bool) → (x.table.0 == 0) ≡ a → (x.table.0 == 1) ≡ b → (x.table.0 == 2) ≡ c → length (events_of xs 0) + length (events_of xs 1) + length (events_of xs 2) ≤ length xs → length (cond a (x ∷ events_of xs 0) (events_of xs 0)) + length (cond b (x ∷ events_of xs 1) (events_of xs 1)) + length (cond c (x ∷ events_of xs 2) (events_of xs 2)) ≤ suc (length xs)
    by_table true true c e f g h = absurd (let n : x.table.0 ≡ 0 = grind (arith, nat_tests, e) in let m : x.table.0 ≡ 1 = grind (arith, nat_tests, f) in omega (arith, n, m))
    by_table true false true e f g h = absurd (let n : x.table.0 ≡ 0 = grind (arith, nat_tests, e) in let m : x.table.0 ≡ 2 = grind (arith, nat_tests, g) in omega (arith, n, m))
    by_table false true true e f g h = absurd (let n : x.table.0 ≡ 1 = grind (arith, nat_tests, f) in let m : x.table.0 ≡ 2 = grind (arith, nat_tests, g) in omega (arith, n, m))
    by_table true false false e f g h = omega (arith, h)
    by_table false true false e f g h = omega (arith, h)
    by_table false false true e f g h = omega (arith, h)
    by_table false false false e f g h = omega (arith, h)

pub of_one : (events : List Live) (table : ℕ) → length (events_of events table) ≤ length events
of_one [] table = omega arith
of_one (x ∷ xs) table = by_table (x.table.0 == table) (of_one xs table)
  where
    by_table : (b : Bool) → length (events_of xs table) ≤ length xs → length (cond b (x ∷ events_of xs table) (events_of xs table)) ≤ suc (length xs)
    by_table true h = omega (arith, h)
    by_table false h = omega (arith, h)

pub placed_few : (queues : List (List Live)) (events : List Live) (table : ℕ) → length (get_or (placed queues events) table []) ≤ length (get_or queues table []) + length events
placed_few queues events table = by_place (is_below (length queues) table)
  where
    by_place : (length queues ≤ table) ⊎ (table < length queues) → length (get_or (placed queues events) table []) ≤ length (get_or queues table []) + length events
    by_place (inl past) =
        let long = length_placed queues events in
        let none = ap length (get_or_past (placed queues events) table [] (omega (arith, long, past))) in
        omega (arith, none)
    by_place (inr within) =
        let a = ap length (placed_at queues events table within) in
        let b = length-append (get_or queues table []) (events_of events table) in
        let c = of_one events table in
        omega (arith, a, b, c)

-- segments that count and are spaced, which a filled last one keeps
pub record AreChained (start : ℕ) (before : ℕ → ℕ) (segments : List Segment) : Type 0 where
  pub counted : (table : ℕ) → table < 3 → AreCounted table (before table) segments
  pub spaced : AreSpaced start segments

module _ (start : ℕ) (before : ℕ → ℕ) (parts : List Segment) (tail : Segment) (events : List Live) (chained : AreChained start before (parts ++ tail ∷ [])) (three : length tail.held ≡ 3) where
  pub held_filled : (table : ℕ) → table < 3 → held_at (filled tail events) table ≡ held_at tail table ++ events_of events table
  held_filled table lt = placed_at tail.held events table (omega (arith, three, lt))

  pub joined_filled : (table : ℕ) → table < 3 → joined table (parts ++ filled tail events ∷ []) ≡ joined table (parts ++ tail ∷ []) ++ events_of events table
  joined_filled table lt =
      joined_push table parts (filled tail events)
      ∙ ap (λ (es : List Live). joined table parts ++ es) (held_filled table lt)
      ∙ sym (append_assoc (joined table parts) (held_at tail table) (events_of events table))
      ∙ ap (λ (es : List Live). es ++ events_of events table) (sym (joined_push table parts tail))

  pub filled_chained : All (λ (event : Live). event.number ≤ tail.end) events → AreChained start before (parts ++ filled tail events ∷ [])
  filled_chained known = record {
    counted = λ table lt. (let h = counted_split table (before table) parts (tail ∷ []) (chained.counted table lt) in counted_both table (before table) parts (filled tail events ∷ []) h.0 (h.1.0, tt));
    spaced = (let h = spaced_split start parts (tail ∷ []) chained.spaced in spaced_both start parts (filled tail events ∷ []) h.0 (h.1.0, (λ table lt. subst (All (λ (event : Live). event.number ≤ tail.end)) (sym (held_filled table lt)) (All-append (λ (event : Live). event.number ≤ tail.end) (held_at tail table) (events_of events table) (h.1.1 table lt) (All-filter (λ (event : Live). event.table.0 == table) (λ (event : Live). event.number ≤ tail.end) events known))), tt));
  }

  pub count_filled : count_of (filled tail events) ≤ count_of tail + length events
  count_filled =
      let none = ap length (held_filled 0 (omega arith)) in
      let one = ap length (held_filled 1 (omega arith)) in
      let two = ap length (held_filled 2 (omega arith)) in
      let all = of_tables events in
      omega (arith, none, one, two, all, length-append (held_at tail 0) (events_of events 0), length-append (held_at tail 1) (events_of events 1), length-append (held_at tail 2) (events_of events 2))

-- an empty segment behind others
module _ (start : ℕ) (before : ℕ → ℕ) (parts : List Segment) (tail next : Segment) (chained : AreChained start before (parts ++ tail ∷ [])) (before_is : next.before ≡ reach_of 0 tail ∷ reach_of 1 tail ∷ reach_of 2 tail ∷ []) (beyond : tail.end + 256 ≤ next.end) (empty : next.held ≡ [] ∷ [] ∷ [] ∷ []) where
  none_held : (table : ℕ) → held_at next table ≡ []
  none_held table = ap (λ (held : List (List Live)). get_or held table []) empty ∙ none table
    where
      none : (k : ℕ) → get_or {A = List Live} ([] ∷ [] ∷ [] ∷ []) k [] ≡ []
      none zero = refl
      none (suc zero) = refl
      none (suc (suc zero)) = refl
      none (suc (suc (suc k))) = refl

  next_before : (table : ℕ) → table < 3 → slice_index next.before table ≡ reach_of table tail
  next_before table lt = ap (λ (ns : List ℕ). get_or ns table 0) before_is ∙ by_table table lt
    where
      by_table : (k : ℕ) → k < 3 → get_or (reach_of 0 tail ∷ reach_of 1 tail ∷ reach_of 2 tail ∷ []) k 0 ≡ reach_of k tail
      by_table zero lt = refl
      by_table (suc zero) lt = refl
      by_table (suc (suc zero)) lt = refl
      by_table (suc (suc (suc k))) lt = absurd (omega (arith, lt))

  pub next_counted : (table : ℕ) → table < 3 → slice_index next.before table ≡ before table + length (joined table (parts ++ tail ∷ []))
  next_counted table lt = next_before table lt ∙ reach_last table (before table) parts tail (chained.counted table lt)

  pub next_chained : AreChained start before ((parts ++ tail ∷ []) ++ next ∷ [])
  next_chained = record {
    counted = λ table lt. counted_both table (before table) (parts ++ tail ∷ []) (next ∷ []) (chained.counted table lt) (next_counted table lt, tt);
    spaced = spaced_both start (parts ++ tail ∷ []) (next ∷ []) chained.spaced ((let a = end_push start parts tail in omega (arith, a, beyond)), (λ table lt. subst (All (λ (event : Live). event.number ≤ next.end)) (sym (none_held table)) (All-nil (λ (event : Live). event.number ≤ next.end))), tt);
  }

  pub next_joined : (table : ℕ) → joined table ((parts ++ tail ∷ []) ++ next ∷ []) ≡ joined table (parts ++ tail ∷ [])
  next_joined table =
      joined_push table (parts ++ tail ∷ []) next ∙ ap (λ (es : List Live). joined table (parts ++ tail ∷ []) ++ es) (none_held table) ∙ append-nil (joined table (parts ++ tail ∷ []))

  pub next_count : count_of next ≡ 0
  next_count = (let a = ap length (none_held 0) in let b = ap length (none_held 1) in let c = ap length (none_held 2) in omega (arith, a, b, c))

  pub next_reach : (table : ℕ) → table < 3 → reach_of table next ≡ before table + length (joined table (parts ++ tail ∷ []))
  next_reach table lt = (let a = next_counted table lt in let b = ap length (none_held table) in omega (arith, a, b))

-- new events up to a number
pub new_known : (last moment end : ℕ) (events : List Event) → last + length events ≤ end → All (λ (event : Live). event.number ≤ end) (new_events last moment events)
new_known last moment end events within =
    let stamped : List (ℕ × Event) = map (λ (event : Event). (moment, event)) events in
    let count : length stamped ≡ length events = length-map events (λ (event : Event). (moment, event)) in
    All-from_recursion (λ (event : Live). event.number ≤ end) (new_events last moment events) (known_new (1 + last) end stamped (omega (arith, count, within)))
