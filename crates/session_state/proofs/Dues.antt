-- What is due and owed by a state's values is what its list says.
use Rattle.std.proofs.Common.{◌≡◌, ℕ, zero, suc, ◌+◌, ◌≤◌, Bool, true, false, cond, List, [], ◌∷◌, length, map, Option, Some, None, refl, sym, ap, ◌∙◌, arith}
use Rattle.std.specs.Prelude.{All, Contains, filter, find, position, is_some, unwrap_or, not, if◌then◌else◌, nat_lt, nat_le, ◌==◌, ◌||◌}
use Rattle.std.specs.List.{position_or_len}
use Rattle.std.specs.Option.{option_map_or}
use Rattle.std.proofs.lemmas.Bool.Decides.{nat_tests}
use Rattle.std.proofs.lemmas.List.Elements.{All-contains, Contains-append_right}
use Rattle.osq_value.specs.declared.moment.TheConstants.{LAST_MOMENT}
use Rattle.pack_rules.specs.declared.schedule.QueryKey.{QueryKey}
use Rattle.pack_rules.specs.declared.schedule.Scheduled.{Scheduled}
use Rattle.pack_rules.specs.Keys.{same_key}
use Rattle.entry_model.specs.declared.entry.Entry.{Entry}
use Rattle.entry_model.specs.declared.entry.Entry.TheVariants.{Ticked, Expired}
use Rattle.entry_model.specs.declared.restored.Run.{Run}
use Rattle.entry_model.specs.Values.{batches_of, cursor_of, has_ticked, schedule_of}
use Rattle.entry_model.specs.Views.{is_due, due_queries, owed_floor, is_evented_table, is_reader, least_of, reached_of}
use Rattle.entry_model.specs.Legal.{LegalNext}
use Rattle.entry_model.specs.Next.{run_at, no_run}
use Rattle.entry_model.specs.Summary.{run_from}
use Rattle.entry_model.proofs.Summaries.{run_is}
use Rattle.query_cursors.specs.Due as cursors
use Rattle.event_store.specs.Owed.{owed_of}
use Rattle.event_store.proofs.Bridge.{owed_by_rules}
use Rattle.session_state.specs.Kept.{Counts, Kept, IsRun}
use Rattle.session_state.specs.StateOf.{HasValues}
use Rattle.session_state.specs.Ticks.{first_due, first_owed, owed_at, reached_at, refusal_of, held_back_by}
use Rattle.session_state.specs.Laws as list
use Rattle.session_state.specs.Laws.{KnowsDues, Dues}
use Rattle.session_state.proofs.Shown.{run_same}

-- where nothing passes a test, its filter keeps nothing
pub none_pass : {X : Type 0} (p : X → Bool) (xs : List X) → nat_lt (position_or_len p xs) (length xs) ≡ false → filter p xs ≡ []
none_pass p [] h = refl
none_pass {X} p (x ∷ xs) h = by_first (p x) refl (none_pass p xs)
  where
    by_first : (b : Bool) → p x ≡ b → (nat_lt (position_or_len p xs) (length xs) ≡ false → filter p xs ≡ []) → filter p (x ∷ xs) ≡ []
    by_first true e rest =
        absurd (let k = sym (ap (λ (b : Bool). nat_lt (cond (not b) (1 + position_or_len p xs) 0) (length (x ∷ xs))) e) ∙ h in grind (arith, nat_tests, k))
    by_first false e rest =
        let k = sym (ap (λ (b : Bool). nat_lt (cond (not b) (1 + position_or_len p xs) 0) (length (x ∷ xs))) e) ∙ h in
        ap (λ (b : Bool). cond b (x ∷ filter p xs) (filter p xs)) e ∙ rest (grind (arith, nat_tests, k))

pub no_position : {X : Type 0} (p : X → Bool) (xs : List X) → position p xs ≡ None → nat_lt (position_or_len p xs) (length xs) ≡ false
no_position p xs h = by_test (nat_lt (position_or_len p xs) (length xs)) refl
  where
    by_test : (b : Bool) → nat_lt (position_or_len p xs) (length xs) ≡ b → nat_lt (position_or_len p xs) (length xs) ≡ false
    by_test false e = e
    by_test true e =
        absurd (let k = sym (ap (λ (b : Bool). cond b (Some (position_or_len p xs)) None) e) ∙ h in cc)

pub found_in : {X : Type 0} (p : X → Bool) (xs : List X) (x : X) → find p xs ≡ Some x → Contains xs x
found_in p [] x h = absurd (cc)
found_in {X} p (y ∷ ys) x h = by_first (p y) refl (found_in p ys x)
  where
    by_first : (b : Bool) → p y ≡ b → (find p ys ≡ Some x → Contains ys x) → Contains (y ∷ ys) x
    by_first true e rest = (zero, omega arith, (let k = sym (ap (λ (b : Bool). cond b (Some y) (find p ys)) e) ∙ h in cc))
    by_first false e rest = Contains-append_right (y ∷ []) ys x (rest (sym (ap (λ (b : Bool). cond b (Some y) (find p ys)) e) ∙ h))

-- a query is due by its run exactly where it is by the list
pub due_same : (K : List Entry) (s : Kept) → HasValues K s → All (IsRun s.counts.batches) s.counts.runs → (scheduled : Scheduled) → is_due K scheduled ≡ cursors.is_due_by s.counts.runs s.counts.moment scheduled
due_same K s h runs scheduled =
    let same : run_from scheduled.key (batches_of K scheduled.key) ≡ run_at s.counts.runs scheduled.key = sym (run_is K scheduled.key) ∙ ap (λ (c : Counts). run_at c.runs scheduled.key) h.counts in
    (λ i. (same i).count == 0 || nat_le ((same i).moment + scheduled.interval) (h.counts i).moment) ∙ by_run (cursors.run_of s.counts.runs scheduled.key) refl
  where
    by_run : (o : Option Run) → cursors.run_of s.counts.runs scheduled.key ≡ o → ((run_at s.counts.runs scheduled.key).count == 0 || nat_le ((run_at s.counts.runs scheduled.key).moment + scheduled.interval) s.counts.moment) ≡ cursors.is_due scheduled (cursors.run_of s.counts.runs scheduled.key) s.counts.moment
    by_run None e =
        ap (λ (o : Option Run). (unwrap_or o (no_run scheduled.key)).count == 0 || nat_le ((unwrap_or o (no_run scheduled.key)).moment + scheduled.interval) s.counts.moment) e ∙ sym (ap (λ (o : Option Run). cursors.is_due scheduled o s.counts.moment) e)
    by_run (Some run) e =
        let some : 1 ≤ run.count = (All-contains (IsRun s.counts.batches) s.counts.runs run runs (found_in (λ (run : Run). same_key run.key scheduled.key) s.counts.runs run e)).some in
        let none : (run.count == 0) ≡ false = grind (arith, nat_tests, some) in
        ap (λ (o : Option Run). (unwrap_or o (no_run scheduled.key)).count == 0 || nat_le ((unwrap_or o (no_run scheduled.key)).moment + scheduled.interval) s.counts.moment) e
        ∙ ap (λ (b : Bool). b || nat_le (run.moment + scheduled.interval) s.counts.moment) none
        ∙ sym (ap (λ (o : Option Run). cursors.is_due scheduled o s.counts.moment) e)

-- the first due query of the list
pub first_due_is : (K : List Entry) (s : Kept) → HasValues K s → All (IsRun s.counts.batches) s.counts.runs → (if has_ticked K then position (is_due K) (schedule_of K).queries else None) ≡ first_due s
first_due_is K s h runs = λ i. if h.ticked i then position (λ (scheduled : Scheduled). due_same K s h runs scheduled i) (h.schedule i).queries else None

pub due_queries_are : (K : List Entry) (s : Kept) → HasValues K s → All (IsRun s.counts.batches) s.counts.runs → due_queries K ≡ (if s.ticked then map (λ (scheduled : Scheduled). scheduled.key) (filter (cursors.is_due_by s.counts.runs s.counts.moment) s.schedule.queries) else [])
due_queries_are K s h runs =
    λ i. if h.ticked i then map (λ (scheduled : Scheduled). scheduled.key) (filter (λ (scheduled : Scheduled). due_same K s h runs scheduled i) (h.schedule i).queries) else []

hi_by : (key : QueryKey) (o : Option Run) → (unwrap_or o (no_run key)).hi ≡ option_map_or (λ (run : Run). run.hi) o 0
hi_by key None = refl
hi_by key (Some run) = refl

-- a query has read as far by its run as by the list
pub cursor_same : (K : List Entry) (s : Kept) → HasValues K s → (key : QueryKey) → cursor_of K key ≡ cursors.cursor_of s.counts.runs key
cursor_same K s h key = ap (λ (run : Run). run.hi) (run_same K s h key) ∙ hi_by key (cursors.run_of s.counts.runs key)

reached_same : (K : List Entry) (s : Kept) → HasValues K s → (table : ℕ) → reached_of K table ≡ reached_at s table
reached_same K s h table =
    λ i. unwrap_or (least_of (map (λ (scheduled : Scheduled). cursor_same K s h scheduled.key i) (filter (is_reader table) (h.schedule i).queries))) (sym h.image.last i)

pub owed_is : (K : List Entry) (s : Kept) → HasValues K s → (table : ℕ) → is_evented_table table ≡ true → owed_floor K table ≡ owed_at s table
owed_is K s h table is =
    ap (λ (o : Option ℕ). if has_ticked K then o else None) (sym (owed_by_rules K table h.rules))
    ∙ (λ i. if h.ticked i then owed_of (h.schedule i).events_expiry (h.schedule i).events_max (h.counts i).moment (reached_same K s h table i) (sym (h.image.live table is) i) else None)

pub none_due : (K : List Entry) (s : Kept) → HasValues K s → All (IsRun s.counts.batches) s.counts.runs → first_due s ≡ None → due_queries K ≡ []
none_due K s h runs none = due_queries_are K s h runs ∙ by_tick s.ticked refl
  where
    by_tick : (b : Bool) → s.ticked ≡ b → (if s.ticked then map (λ (scheduled : Scheduled). scheduled.key) (filter (cursors.is_due_by s.counts.runs s.counts.moment) s.schedule.queries) else []) ≡ []
    by_tick false e = ap (λ (b : Bool). cond b (map (λ (scheduled : Scheduled). scheduled.key) (filter (cursors.is_due_by s.counts.runs s.counts.moment) s.schedule.queries)) []) e
    by_tick true e =
        let at : position (cursors.is_due_by s.counts.runs s.counts.moment) s.schedule.queries ≡ None = sym (ap (λ (b : Bool). cond b (cursors.first_due s.counts.runs s.schedule.queries s.counts.moment) None) e) ∙ none in
        ap (λ (b : Bool). cond b (map (λ (scheduled : Scheduled). scheduled.key) (filter (cursors.is_due_by s.counts.runs s.counts.moment) s.schedule.queries)) []) e
        ∙ ap (map (λ (scheduled : Scheduled). scheduled.key)) (none_pass (cursors.is_due_by s.counts.runs s.counts.moment) s.schedule.queries (no_position (cursors.is_due_by s.counts.runs s.counts.moment) s.schedule.queries at))

no_one : (o : Option ℕ) → is_some o ≡ false → o ≡ None
no_one None h = refl
no_one (Some n) h = absurd (cc)

abbrev pick : Bool → Bool → Bool → Option ℕ
pick a b c = if a then Some 0 else (if b then Some 1 else (if c then Some 2 else None))

none_picked : (a b c : Bool) → pick a b c ≡ None → (a ≡ false) × (b ≡ false) × (c ≡ false)
none_picked true b c h = absurd (cc)
none_picked false true c h = absurd (cc)
none_picked false false true h = absurd (cc)
none_picked false false false h = (refl, refl, refl)

none_owed : (s : Kept) → first_owed s ≡ None → (table : ℕ) → is_evented_table table ≡ true → owed_at s table ≡ None
none_owed s none table is = at table is
  where
    all : (is_some (owed_at s 0) ≡ false) × (is_some (owed_at s 1) ≡ false) × (is_some (owed_at s 2) ≡ false)
    all = none_picked (is_some (owed_at s 0)) (is_some (owed_at s 1)) (is_some (owed_at s 2)) none

    at : (table : ℕ) → is_evented_table table ≡ true → owed_at s table ≡ None
    at zero e = no_one (owed_at s 0) all.0
    at (suc zero) e = no_one (owed_at s 1) all.1
    at (suc (suc zero)) e = no_one (owed_at s 2) all.2
    at (suc (suc (suc n))) e = absurd (grind (arith, nat_tests, e))

none_refused : (due owed : Option ℕ) → refusal_of due owed ≡ None → (due ≡ None) × (owed ≡ None)
none_refused (Some at) owed h = absurd (cc)
none_refused None (Some table) h = absurd (cc)
none_refused None None h = (refl, refl)

-- a tick that nothing holds back may follow
pub may_tick : (K : List Entry) (s : Kept) (moment : ℕ) → HasValues K s → All (IsRun s.counts.batches) s.counts.runs → moment ≤ LAST_MOMENT → s.counts.moment ≤ moment → held_back_by s ≡ None → LegalNext K (Ticked moment)
may_tick K s moment h runs low later free =
    let held = none_refused (first_due s) (first_owed s) free in
    let now = ap (λ (c : Counts). c.moment) h.counts in
    (record { later = omega (arith, now, later); calendar = low }, none_due K s h runs held.0, λ table is. owed_is K s h table is ∙ none_owed s held.1 table is)

first_owed_is : (K : List Entry) (s : Kept) → HasValues K s → list.first_owed K ≡ first_owed s
first_owed_is K s h =
    λ i. if is_some (owed_is K s h 0 refl i) then Some 0 else (if is_some (owed_is K s h 1 refl i) then Some 1 else (if is_some (owed_is K s h 2 refl i) then Some 2 else None))

pub knows_dues : Dues
knows_dues K s known h =
    let due = first_due_is K s h known.runs in
    let owed = first_owed_is K s h in
    record {
      due = sym due;
      owed = λ table is. sym (owed_is K s h table is);
      held_back = sym (λ i. refusal_of (due i) (owed i));
    }

-- an expiry that the state owes may follow
pub may_expire : (K : List Entry) (s : Kept) (table floor : ℕ) → HasValues K s → is_evented_table table ≡ true → owed_at s table ≡ Some floor → LegalNext K (Expired (record { 0 = table }) floor s.counts.moment)
may_expire K s table floor h is owed = (is, owed_is K s h table is ∙ owed, sym (ap (λ (c : Counts). c.moment) h.counts))
