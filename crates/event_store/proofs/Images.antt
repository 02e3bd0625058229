-- What is known of an image after each change.
use Rattle.std.proofs.Common.{◌≡◌, ◌⊎◌, ℕ, suc, ◌+◌, ◌<◌, ◌≤◌, ◌≢◌, Bool, true, false, cond, List, [], ◌∷◌, ◌++◌, length, map, take, set, get_or, refl, sym, ap, ◌∙◌, subst, inl, inr, arith, append_assoc}
use Rattle.std.specs.Prelude.{All, ◌==◌, nat_lt}
use Rattle.std.specs.List.{AllByRecursion}
use Rattle.std.proofs.lemmas.Bool.Decides.{nat_tests}
use Rattle.std.proofs.lemmas.List.{append-nil, length-map, length-set, get_or-set_same, get_or-set_other, get_or_past}
use Rattle.std.proofs.lemmas.List.Elements.{All-nil, All-append, All-weaker, All-filter, All-from_recursion, recursion_from_All}
use Rattle.osq_value.specs.declared.value.Event.{Event}
use Rattle.entry_model.specs.declared.restored.Live.{Live}
use Rattle.entry_model.specs.Values.{numbered}
use Rattle.entry_model.specs.Fits.{IsRisingFrom}
use Rattle.entry_model.specs.Legal.{IsEvent, width_of}
use Rattle.entry_model.proofs.Lists.{is_below}
use Rattle.entry_model.proofs.Fitting.{rising_numbers, rising_filter}
use Rattle.event_store.specs.Queues.{events_of, above, new_events, pushed, placed, IsLonger}
use Rattle.event_store.specs.Contents.{AreLive}

pub length_placed : (queues : List (List Live)) (events : List Live) → length (placed queues events) ≡ length queues
length_placed queues [] = refl
length_placed queues (x ∷ xs) =
    length_placed (pushed queues x) xs ∙ length-set queues x.table.0 (get_or queues x.table.0 [] ++ x ∷ [])

pub pushed_at : (queues : List (List Live)) (x : Live) (table : ℕ) → table < length queues → get_or (pushed queues x) table [] ≡ get_or queues table [] ++ events_of (x ∷ []) table
pushed_at queues x table within = by_table (x.table.0 == table) refl
  where
    by_table : (b : Bool) → (x.table.0 == table) ≡ b → get_or (pushed queues x) table [] ≡ get_or queues table [] ++ cond b (x ∷ []) []
    by_table true e =
        let same : x.table.0 ≡ table = grind (arith, nat_tests, e) in
        ap (λ (t : ℕ). get_or (set queues t (get_or queues t [] ++ x ∷ [])) table []) same ∙ get_or-set_same queues table (get_or queues table [] ++ x ∷ []) [] within
    by_table false e =
        let apart : table ≢ x.table.0 = λ same. absurd (grind (arith, nat_tests, e, same)) in
        get_or-set_other queues x.table.0 table (get_or queues x.table.0 [] ++ x ∷ []) [] apart ∙ sym (append-nil (get_or queues table []))

-- each table gains its own events
pub placed_at : (queues : List (List Live)) (events : List Live) (table : ℕ) → table < length queues → get_or (placed queues events) table [] ≡ get_or queues table [] ++ events_of events table
placed_at queues [] table within = sym (append-nil (get_or queues table []))
placed_at queues (x ∷ xs) table within =
    placed_at (pushed queues x) xs table (omega (arith, length-set queues x.table.0 (get_or queues x.table.0 [] ++ x ∷ [])))
    ∙ ap (λ (es : List Live). es ++ events_of xs table) (pushed_at queues x table within)
    ∙ append_assoc (get_or queues table []) (events_of (x ∷ []) table) (events_of xs table)
    ∙ ap (λ (es : List Live). get_or queues table [] ++ es) (joined (x.table.0 == table))
  where
    joined : (b : Bool) → cond b (x ∷ []) [] ++ events_of xs table ≡ cond b (x ∷ events_of xs table) (events_of xs table)
    joined true = refl
    joined false = refl

rising_both : (n m : ℕ) (xs ys : List Live) → n ≤ m → IsRisingFrom n xs → AllByRecursion (λ (event : Live). event.number ≤ m) xs → IsRisingFrom m ys → IsRisingFrom n (xs ++ ys)
rising_both n m [] [] up r low s = tt
rising_both n m [] (y ∷ ys) up r low s = (let a = s.0 in omega (arith, a, up), s.1)
rising_both n m (x ∷ xs) ys up r low s = (r.0, rising_both x.number m xs ys low.0 r.1 low.1 s)

pub known_new : (n last : ℕ) (xs : List (ℕ × Event)) → n + length xs ≤ last + 1 → AllByRecursion (λ (event : Live). event.number ≤ last) (numbered n xs)
known_new n last [] h = tt
known_new n last (x ∷ xs) h = (omega arith, known_new (suc n) last xs (omega arith))

abbrev HasWidth : Live → Type 0
HasWidth event = length event.row ≡ width_of event.table.0

wide_new : (n moment : ℕ) (events : List Event) → AllByRecursion IsEvent events → AllByRecursion HasWidth (numbered n (map (λ (event : Event). (moment, event)) events))
wide_new n moment [] h = tt
wide_new n moment (x ∷ xs) h = (h.0.wide, wide_new (suc n) moment xs h.1)

wide_of : (table : ℕ) (events : List Live) → AllByRecursion HasWidth events → AllByRecursion (λ (event : Live). length event.row ≡ width_of table) (events_of events table)
wide_of table [] h = tt
wide_of table (x ∷ xs) h = by_table (x.table.0 == table) refl (wide_of table xs h.1)
  where
    by_table : (b : Bool) → (x.table.0 == table) ≡ b → AllByRecursion (λ (event : Live). length event.row ≡ width_of table) (events_of xs table) → AllByRecursion (λ (event : Live). length event.row ≡ width_of table) (cond b (x ∷ events_of xs table) (events_of xs table))
    by_table true e rest = (h.0 ∙ ap width_of (grind (arith, nat_tests, e)), rest)
    by_table false e rest = rest

pub none_live : (last table : ℕ) → AreLive last table []
none_live last table =
    record {
      rising = tt;
      known = All-nil (λ (event : Live). event.number ≤ last);
      wide = All-nil (λ (event : Live). length event.row ≡ width_of table);
    }

-- the events of a table among some that are known
pub live_of_table : (last table : ℕ) (events : List Live) → IsRisingFrom 0 events → All (λ (event : Live). event.number ≤ last) events → All HasWidth events → AreLive last table (events_of events table)
live_of_table last table events rising known wide =
    record {
      rising = rising_filter (λ (event : Live). event.table.0 == table) 0 events rising;
      known = All-filter (λ (event : Live). event.table.0 == table) (λ (event : Live). event.number ≤ last) events known;
      wide = All-from_recursion (λ (event : Live). length event.row ≡ width_of table) (events_of events table) (wide_of table events (recursion_from_All HasWidth events wide));
    }

-- the events of a table after more are appended
pub live_appended : (last moment table : ℕ) (old : List Live) (events : List Event) → AreLive last table old → All IsEvent events → AreLive (last + length events) table (old ++ events_of (new_events last moment events) table)
live_appended last moment table old events h good =
    let stamped : List (ℕ × Event) = map (λ (event : Event). (moment, event)) events in
    let new = new_events last moment events in
    let count : length stamped ≡ length events = length-map events (λ (event : Event). (moment, event)) in
    let rising : IsRisingFrom last new = rising_numbers (1 + last) last stamped (omega arith) in
    let known : AllByRecursion (λ (event : Live). event.number ≤ last + length events) new = known_new (1 + last) (last + length events) stamped (omega (arith, count)) in
    let wide : AllByRecursion HasWidth new = wide_new (1 + last) moment events (recursion_from_All IsEvent events good) in
    record {
      rising = rising_both 0 last old (events_of new table) (omega arith) h.rising (recursion_from_All (λ (event : Live). event.number ≤ last) old h.known) (rising_filter (λ (event : Live). event.table.0 == table) last new rising);
      known = All-append (λ (event : Live). event.number ≤ last + length events) old (events_of new table) (All-weaker (λ (event : Live). event.number ≤ last) (λ (event : Live). event.number ≤ last + length events) (λ x k. omega (arith, k)) old h.known) (All-filter (λ (event : Live). event.table.0 == table) (λ (event : Live). event.number ≤ last + length events) new (All-from_recursion (λ (event : Live). event.number ≤ last + length events) new known));
      wide = All-append (λ (event : Live). length event.row ≡ width_of table) old (events_of new table) h.wide (All-from_recursion (λ (event : Live). length event.row ≡ width_of table) (events_of new table) (wide_of table new wide));
    }

-- the events of a table above a floor
pub live_above : (last table floor : ℕ) (old : List Live) → AreLive last table old → AreLive last table (above floor old)
live_above last table floor old h =
    record {
      rising = rising_filter (λ (event : Live). nat_lt floor event.number) 0 old h.rising;
      known = All-filter (λ (event : Live). nat_lt floor event.number) (λ (event : Live). event.number ≤ last) old h.known;
      wide = All-filter (λ (event : Live). nat_lt floor event.number) (λ (event : Live). length event.row ≡ width_of table) old h.wide;
    }

-- beyond the lists there are no events
pub each_live : (last : ℕ) (queues : List (List Live)) → ((table : ℕ) → table < length queues → AreLive last table (get_or queues table [])) → (table : ℕ) → AreLive last table (get_or queues table [])
each_live last queues h table = by_place (is_below (length queues) table)
  where
    by_place : (length queues ≤ table) ⊎ (table < length queues) → AreLive last table (get_or queues table [])
    by_place (inl past) = subst (AreLive last table) (sym (get_or_past queues table [] past)) (none_live last table)
    by_place (inr within) = h table within

-- three lists that each begin as they did, cut back
pub cut_back : (old new : List (List Live)) → length old ≡ 3 → IsLonger old new → set (set (set new 0 (take (length (get_or old 0 [])) (get_or new 0 []))) 1 (take (length (get_or old 1 [])) (get_or new 1 []))) 2 (take (length (get_or old 2 [])) (get_or new 2 [])) ≡ old
cut_back old new three longer = three_lists old new three (longer.count ∙ three) (longer.front 0) (longer.front 1) (longer.front 2)
  where
    three_lists : (old new : List (List Live)) → length old ≡ 3 → length new ≡ 3 → take (length (get_or old 0 [])) (get_or new 0 []) ≡ get_or old 0 [] → take (length (get_or old 1 [])) (get_or new 1 []) ≡ get_or old 1 [] → take (length (get_or old 2 [])) (get_or new 2 []) ≡ get_or old 2 [] → set (set (set new 0 (take (length (get_or old 0 [])) (get_or new 0 []))) 1 (take (length (get_or old 1 [])) (get_or new 1 []))) 2 (take (length (get_or old 2 [])) (get_or new 2 [])) ≡ old
    three_lists (a ∷ b ∷ c ∷ []) (x ∷ y ∷ z ∷ []) l m p q r = λ i. p i ∷ q i ∷ r i ∷ []
    three_lists old new l m p q r = absurd (omega (arith, l, m))
