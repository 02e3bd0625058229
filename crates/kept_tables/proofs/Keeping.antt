-- The rows of the tables behind the statements of an entry.
use Rattle.std.proofs.Common.{◌≡◌, ℕ, suc, ◌+◌, ◌-◌, ◌<◌, ◌≤◌, ◌^◌, Bool, true, false, cond, List, [], ◌∷◌, ◌++◌, length, map, refl, sym, subst, ap, ap₂, ◌∙◌, arith}
use Rattle.std.specs.Prelude.{filter, flat_map, ◌==◌, slice_get, slice_index, unwrap_or, Option, Some}
use Rattle.std.specs.List.{AllByRecursion}
use Rattle.std.proofs.lemmas.Bool.Decides.{nat_tests}
use Rattle.std.proofs.lemmas.List.{append-nil, length-map}
use Rattle.std.proofs.lemmas.List.Concat.{flat_map-append}
use Rattle.std.proofs.lemmas.List.Elements.{filter-append}
use Rattle.osq_value.specs.declared.value.Event.{Event}
use Rattle.osq_value.specs.declared.value.Value.{Value}
use Rattle.batch_frames.specs.Texts.{IsHeldValue}
use Rattle.entry_model.specs.declared.restored.Live.{Live}
use Rattle.entry_model.specs.Fits.{IsRisingFrom}
use Rattle.entry_model.specs.Values.{is_above, last_of, numbered}
use Rattle.entry_model.specs.Views.{is_evented_table}
use Rattle.entry_model.proofs.Fitting.{rises_from, rising_filter}
use Rattle.kept_tables.specs.declared.live.LivePart.{LivePart}
use Rattle.kept_tables.specs.Edits.{last_in, rows_of, event_groups, is_full, live_part, own}
use Rattle.kept_tables.specs.Groups.{joined}
use Rattle.kept_tables.specs.Keeps.{IsBounded}
use Rattle.kept_tables.specs.Loads.{event_of, events_in, events_of}
use Rattle.kept_tables.specs.Rows.{IsLivePart}
use Rattle.kept_tables.proofs.Cutting.{groups_join, all_groups_hold, all_mapped, all_weaker, filter_all, filter_none, filter_passed}

-- ---- numbers that rise

rising_front : (m : ℕ) (xs ys : List Live) → IsRisingFrom m (xs ++ ys) → IsRisingFrom m xs × IsRisingFrom 0 ys
rising_front m [] ys h = (tt, rises_from m 0 ys (omega arith) h)
rising_front m (x ∷ xs) ys h = let rest = rising_front x.number xs ys h.1 in ((h.0, rest.0), rest.1)

rising_groups : (m : ℕ) (gs : List (List Live)) → IsRisingFrom m (joined gs) → AllByRecursion (IsRisingFrom 0) gs
rising_groups m [] h = tt
rising_groups m (g ∷ gs) h = let both = rising_front m g (joined gs) h in (rises_from m 0 g (omega arith) both.0, rising_groups 0 gs both.1)

abbrev end_from : ℕ → List Live → ℕ
end_from m xs = last_of (λ (n : ℕ). Some n) m (map (λ (e : Live). e.number) xs)

to_end : (m : ℕ) (xs : List Live) → IsRisingFrom m xs → (m ≤ end_from m xs) × AllByRecursion (λ (n : ℕ). n ≤ end_from m xs) (map (λ (e : Live). e.number) xs)
to_end m [] h = (omega arith, tt)
to_end m (x ∷ xs) h =
    let rest = to_end x.number xs h.1 in
    let first = h.0 in
    let low = rest.0 in
    (omega (arith, first, low), (low, rest.1))

last_at : (n : ℕ) (ns : List ℕ) → slice_get (n ∷ ns) (length ns) ≡ Some (last_of (λ (m : ℕ). Some m) n ns)
last_at n [] = refl
last_at n (m ∷ ns) = last_at m ns

last_is : (n : ℕ) (ns : List ℕ) → last_in (n ∷ ns) ≡ last_of (λ (m : ℕ). Some m) n ns
last_is n ns =
    let at : length (n ∷ ns) - 1 ≡ length ns = omega arith in
    ap (λ (k : ℕ). unwrap_or (slice_get (n ∷ ns) k) 0) at ∙ ap (λ (o : Option ℕ). unwrap_or o 0) (last_at n ns)

bounded : (table moment : ℕ) (g : List Live) → IsRisingFrom 0 g → IsBounded (live_part table moment g)
bounded table moment [] h = tt
bounded table moment (event ∷ g) h =
    let numbers = map (λ (e : Live). e.number) (event ∷ g) in
    subst (λ (last : ℕ). AllByRecursion (λ (n : ℕ). n ≤ last) numbers) (sym (last_is event.number (map (λ (e : Live). e.number) g))) (to_end 0 (event ∷ g) h).1

-- ---- the events of an entry

-- what is known of each new event
pub record IsNew (moment : ℕ) (event : Live) : Type 0 where
  pub moment_is : event.moment ≡ moment
  pub small : event.number < 2 ^ 64
  pub held : AllByRecursion IsHeldValue event.row

pub new_events : (moment n : ℕ) (events : List Event) → n + length events ≤ 2 ^ 63 → AllByRecursion (λ (event : Event). AllByRecursion IsHeldValue event.row) events → AllByRecursion (IsNew moment) (numbered n (map (λ (event : Event). (moment, event)) events))
new_events moment n [] small h = tt
new_events moment n (event ∷ events) small h = (record { moment_is = refl; small = omega (arith, small); held = h.0 }, new_events moment (suc n) events (omega (arith, small)) h.1)

abbrev IsOwn : ℕ → ℕ → Live → Type 0
IsOwn table moment event = (event.table.0 ≡ table) × IsNew moment event

own_events : (table moment : ℕ) (events : List Live) → AllByRecursion (IsNew moment) events → AllByRecursion (IsOwn table moment) (own table events)
own_events table moment [] h = tt
own_events table moment (event ∷ events) h = by (event.table.0 == table) refl (own_events table moment events h.1)
  where
    by : (b : Bool) → (event.table.0 == table) ≡ b → AllByRecursion (IsOwn table moment) (own table events) → AllByRecursion (IsOwn table moment) (cond b (event ∷ own table events) (own table events))
    by true is rest = ((grind (arith, nat_tests, is), h.0), rest)
    by false is rest = rest

part_events : (table moment : ℕ) (g : List Live) → AllByRecursion (IsOwn table moment) g → events_of (live_part table moment g) ≡ g
part_events table moment [] h = refl
part_events table moment (event ∷ g) h =
    let one : event_of (record { 0 = table }) moment (event.number, event.row) ≡ event =
    (λ i. record { number = event.number; table = record { 0 = sym h.0.0 i }; moment = sym h.0.1.moment_is i; row = event.row }) in
    ap₂ (λ (e : Live) (es : List Live). e ∷ es) one (part_events table moment g h.1)

parts_events : (table moment : ℕ) (gs : List (List Live)) → AllByRecursion (AllByRecursion (IsOwn table moment)) gs → flat_map events_of (map (live_part table moment) gs) ≡ joined gs
parts_events table moment [] h = refl
parts_events table moment (g ∷ gs) h = ap₂ (λ (es rest : List Live). es ++ rest) (part_events table moment g h.0) (parts_events table moment gs h.1)

is_part : (table moment : ℕ) → is_evented_table table ≡ true → (g : List Live) → AllByRecursion (IsOwn table moment) g → IsLivePart (live_part table moment g)
is_part table moment evented g h = record {
  evented = evented;
  numbers = all_mapped (λ (n : ℕ). n < 2 ^ 64) (λ (e : Live). e.number) g (all_weaker (IsOwn table moment) (λ (e : Live). e.number < 2 ^ 64) (λ e is. is.1.small) g h);
  rows = all_mapped (λ (row : List Value). AllByRecursion IsHeldValue row) (λ (e : Live). e.row) g (all_weaker (IsOwn table moment) (λ (e : Live). AllByRecursion IsHeldValue e.row) (λ e is. is.1.held) g h);
  each = length-map g (λ (e : Live). e.number) ∙ sym (length-map g (λ (e : Live). e.row));
}

each_part : (table moment : ℕ) → is_evented_table table ≡ true → (gs : List (List Live)) → AllByRecursion (AllByRecursion (IsOwn table moment)) gs → AllByRecursion IsLivePart (map (live_part table moment) gs)
each_part table moment evented [] h = tt
each_part table moment evented (g ∷ gs) h = (is_part table moment evented g h.0, each_part table moment evented gs h.1)

each_bounded : (table moment : ℕ) (gs : List (List Live)) → AllByRecursion (IsRisingFrom 0) gs → AllByRecursion IsBounded (map (live_part table moment) gs)
each_bounded table moment [] h = tt
each_bounded table moment (g ∷ gs) h = (bounded table moment g h.0, each_bounded table moment gs h.1)

-- the parts that an entry's events of a table make
abbrev pub parts_of : ℕ → ℕ → List Live → List LivePart
parts_of table moment events = map (live_part table moment) (event_groups (own table events))

pub record AreParts (table moment : ℕ) (events : List Live) : Type 0 where
  pub held : AllByRecursion IsLivePart (parts_of table moment events)
  pub bounded : AllByRecursion IsBounded (parts_of table moment events)
  pub are : flat_map events_of (parts_of table moment events) ≡ own table events

pub are_parts : (table moment n : ℕ) → is_evented_table table ≡ true → (events : List Live) → AllByRecursion (IsNew moment) events → IsRisingFrom n events → AreParts table moment events
are_parts table moment n evented events new rising =
    let whole = groups_join (λ (events : List Live). is_full (rows_of events)) (own table events) in
    let own_all = all_groups_hold (IsOwn table moment) (event_groups (own table events)) (subst (AllByRecursion (IsOwn table moment)) (sym whole) (own_events table moment events new)) in
    let rise = rising_groups n (event_groups (own table events)) (subst (IsRisingFrom n) (sym whole) (rising_filter (λ (e : Live). e.table.0 == table) n events rising)) in
    record {
      held = each_part table moment evented (event_groups (own table events)) own_all;
      bounded = each_bounded table moment (event_groups (own table events)) rise;
      are = parts_events table moment (event_groups (own table events)) own_all ∙ whole;
    }

-- ---- events of several tables

pub events_in-append : (floors : List ℕ) (ps qs : List LivePart) → events_in floors (ps ++ qs) ≡ events_in floors ps ++ events_in floors qs
events_in-append floors ps qs =
    ap (filter (is_above (slice_index floors))) (flat_map-append events_of ps qs) ∙ filter-append (is_above (slice_index floors)) (flat_map events_of ps) (flat_map events_of qs)

all_above : (floors : List ℕ) (last : ℕ) → ((table : ℕ) → slice_index floors table ≤ last) → (n : ℕ) → last ≤ n → (events : List Live) → IsRisingFrom n events → AllByRecursion (λ (e : Live). is_above (slice_index floors) e ≡ true) events
all_above floors last low n le [] h = tt
all_above floors last low n le (event ∷ events) h =
    let below = low event.table.0 in
    let first = h.0 in
    let above : slice_index floors event.table.0 < event.number = omega (arith, below, first, le) in
    let next : last ≤ event.number = omega (arith, first, le) in
    (grind (arith, nat_tests, above), all_above floors last low event.number next events h.1)

pub new_in : (floors : List ℕ) (last table moment : ℕ) → ((t : ℕ) → slice_index floors t ≤ last) → (events : List Live) → IsRisingFrom last events → AreParts table moment events → events_in floors (parts_of table moment events) ≡ own table events
new_in floors last table moment low events rising parts =
    ap (filter (is_above (slice_index floors))) parts.are ∙ filter_all (is_above (slice_index floors)) (own table events)
    (all_above floors last low last (omega arith) (own table events) (rising_filter (λ (e : Live). e.table.0 == table) last events rising))

own_own : (table : ℕ) (events : List Live) → own table (own table events) ≡ own table events
own_own table events = filter_all (λ (e : Live). e.table.0 == table) (own table events) (filter_passed (λ (e : Live). e.table.0 == table) events)

own_other : (table other : ℕ) → ((n : ℕ) → (n == other) ≡ true → (n == table) ≡ false) → (events : List Live) → own table (own other events) ≡ []
own_other table other apart events =
    filter_none (λ (e : Live). e.table.0 == table) (own other events)
    (all_weaker (λ (e : Live). (e.table.0 == other) ≡ true) (λ (e : Live). (e.table.0 == table) ≡ false) (λ e is. apart e.table.0 is) (own other events) (filter_passed (λ (e : Live). e.table.0 == other) events))

-- the parts of a table with those of an entry's events of each table
abbrev pub with_parts : ℕ → List Live → List LivePart → List LivePart
with_parts moment events parts = parts ++ parts_of 0 moment events ++ parts_of 1 moment events ++ parts_of 2 moment events

pub all_in : (floors : List ℕ) (moment : ℕ) (events : List Live) (parts : List LivePart)
    → events_in floors (parts_of 0 moment events) ≡ own 0 events → events_in floors (parts_of 1 moment events) ≡ own 1 events → events_in floors (parts_of 2 moment events) ≡ own 2 events
    → events_in floors (with_parts moment events parts) ≡ events_in floors parts ++ own 0 events ++ own 1 events ++ own 2 events
all_in floors moment events parts p0 p1 p2 =
    let add = events_in-append floors in
    add (parts ++ parts_of 0 moment events ++ parts_of 1 moment events) (parts_of 2 moment events)
    ∙ ap₂ (λ (es rest : List Live). es ++ rest) (add (parts ++ parts_of 0 moment events) (parts_of 1 moment events) ∙ ap₂ (λ (es rest : List Live). es ++ rest) (add parts (parts_of 0 moment events) ∙ ap (λ (es : List Live). events_in floors parts ++ es) p0) p1) p2

own_three : (table : ℕ) (e a b c : List Live) → own table (e ++ a ++ b ++ c) ≡ own table e ++ own table a ++ own table b ++ own table c
own_three table e a b c =
    let is_own = λ (event : Live). event.table.0 == table in
    filter-append is_own (e ++ a ++ b) c
    ∙ ap (λ (es : List Live). es ++ own table c) (filter-append is_own (e ++ a) b ∙ ap (λ (es : List Live). es ++ own table b) (filter-append is_own e a))

four : (e a b c a' b' c' : List Live) → a ≡ a' → b ≡ b' → c ≡ c' → e ++ a ++ b ++ c ≡ e ++ a' ++ b' ++ c'
four e a b c a' b' c' p q r = λ i. e ++ p i ++ q i ++ r i

pub own_first : (live events : List Live) → own 0 (live ++ own 0 events ++ own 1 events ++ own 2 events) ≡ own 0 (live ++ events)
own_first live events =
    own_three 0 live (own 0 events) (own 1 events) (own 2 events)
    ∙ four (own 0 live) (own 0 (own 0 events)) (own 0 (own 1 events)) (own 0 (own 2 events)) (own 0 events) [] [] (own_own 0 events) (own_other 0 1 (λ n is. grind (arith, nat_tests, is)) events) (own_other 0 2 (λ n is. grind (arith, nat_tests, is)) events)
    ∙ append-nil (own 0 live ++ own 0 events ++ []) ∙ append-nil (own 0 live ++ own 0 events) ∙ sym (filter-append (λ (event : Live). event.table.0 == 0) live events)

pub own_second : (live events : List Live) → own 1 (live ++ own 0 events ++ own 1 events ++ own 2 events) ≡ own 1 (live ++ events)
own_second live events =
    own_three 1 live (own 0 events) (own 1 events) (own 2 events)
    ∙ four (own 1 live) (own 1 (own 0 events)) (own 1 (own 1 events)) (own 1 (own 2 events)) [] (own 1 events) [] (own_other 1 0 (λ n is. grind (arith, nat_tests, is)) events) (own_own 1 events) (own_other 1 2 (λ n is. grind (arith, nat_tests, is)) events)
    ∙ append-nil (own 1 live ++ [] ++ own 1 events) ∙ ap (λ (es : List Live). es ++ own 1 events) (append-nil (own 1 live)) ∙ sym (filter-append (λ (event : Live). event.table.0 == 1) live events)

pub own_third : (live events : List Live) → own 2 (live ++ own 0 events ++ own 1 events ++ own 2 events) ≡ own 2 (live ++ events)
own_third live events =
    own_three 2 live (own 0 events) (own 1 events) (own 2 events)
    ∙ four (own 2 live) (own 2 (own 0 events)) (own 2 (own 1 events)) (own 2 (own 2 events)) [] [] (own 2 events) (own_other 2 0 (λ n is. grind (arith, nat_tests, is)) events) (own_other 2 1 (λ n is. grind (arith, nat_tests, is)) events) (own_own 2 events)
    ∙ ap (λ (es : List Live). es ++ own 2 events) (append-nil (own 2 live ++ []) ∙ append-nil (own 2 live)) ∙ sym (filter-append (λ (event : Live). event.table.0 == 2) live events)
