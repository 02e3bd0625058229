-- No query becomes due within a step, by states alone.
use Rattle.std.proofs.Common.{◌≡◌, ◌≢◌, ◌⊎◌, inl, inr, ℕ, suc, ◌+◌, ◌≤◌, Bool, true, false, cond, List, [], ◌∷◌, ◌++◌, get_or, length, Option, Some, None, refl, sym, ap, ◌∙◌, subst, arith, append_assoc, true≢false}
use Rattle.std.specs.Prelude.{All, Contains, filter, nat_lt, not, position, unwrap_or}
use Rattle.std.specs.List.{position_or_len}
use Rattle.std.proofs.lemmas.Bool.Decides.{nat_tests}
use Rattle.std.proofs.lemmas.List.{append_cancel_left}
use Rattle.std.proofs.lemmas.List.Elements.{All-nil, All-cons, All-contains, All-head, All-map, All-tail, All-weaker, Contains-get_or}
use mathlib.Core.List.{map-append}
use Rattle.pack_rules.specs.declared.schedule.Scheduled.{Scheduled}
use Rattle.pack_rules.specs.Sound.{IsRunnable}
use Rattle.osq_value.specs.declared.reading.Reading.{Reading}
use Rattle.osq_value.specs.declared.reading.Reading.TheVariants.{Events, Table}
use Rattle.entry_model.specs.declared.entry.Entry.{Entry}
use Rattle.entry_model.specs.declared.entry.Entry.TheVariants.{Opened, Configured, Ticked, Appended, TableSet, Expired, Committed, Acked}
use Rattle.entry_model.specs.declared.restored.Run.{Run}
use Rattle.entry_model.specs.Runs.{with_batch}
use Rattle.entry_model.specs.Values.{last_of, moment_in, schedule_in, tick_in}
use Rattle.entry_model.proofs.Lasts.{last_of-append}
use Rattle.query_cursors.specs.Due.{is_due_by}
use Rattle.session_state.specs.Kept.{Counts, Kept, counts_next}
use Rattle.session_state.specs.Readings.{entry_of}
use Rattle.session_state.specs.Ticks.{first_due}
use Rattle.session_state.proofs.Dues.{no_position, none_pass}
use Rattle.session_state.proofs.Rooms.{was_due}
use Rattle.session_model.specs.Laws.{is_within}
use Rattle.turn_lock.specs.Turns.{entries}
use Rattle.turn_lock.proofs.Lists.{all_left, all_right}
use Rattle.shared_store.specs.declared.noted.Noted.{Noted}
use Rattle.shared_store.specs.declared.noted.Noted.TheVariants.{Added, Taken, Given}
use Rattle.shared_store.specs.Notes.{entries_in}
use Rattle.shared_store.specs.Values.{counts_after}
use Rattle.shared_store.proofs.Lists.{entries_in-append}
use Rattle.thread_laws.specs.Jobs.{Stamped}
use Rattle.thread_laws.specs.Laws.{StayUndue, TimelyJoined}
use Rattle.thread_laws.specs.Timely.{AreTimely, IsMadeAt, IsNotedAt, moment_at}
use Rattle.thread_laws.proofs.Adding.{HoldsIn, IsStill, entries_all}
use Rattle.thread_laws.proofs.Agreed.{each_added}
use Rattle.thread_laws.proofs.Bodies.{all_still}

-- ---- in the joined list
none_timely : (start : Kept) (number : ℕ) (before more : Stamped) → All (λ (note : ℕ × Noted). note.0 ≢ number) more → AreTimely start number before more
none_timely start number before [] none = tt
none_timely start number before (note ∷ more) none = (
  λ same. absurd (All-head (λ (note : ℕ × Noted). note.0 ≢ number) note more none same),
  none_timely start number (before ++ note ∷ []) more (All-tail (λ (note : ℕ × Noted). note.0 ≢ number) note more none),
)

more_timely : (start : Kept) (number : ℕ) (before front rest : Stamped) → AreTimely start number before front → All (λ (note : ℕ × Noted). note.0 ≢ number) rest → AreTimely start number before (front ++ rest)
more_timely start number before [] rest timely none = none_timely start number before rest none
more_timely start number before (note ∷ front) rest timely none =
    (timely.0, more_timely start number (before ++ note ∷ []) front rest timely.1 none)

pub timely_joined : TimelyJoined
timely_joined start number before front more timely grows =
    let parts : more ≡ front ++ grows.0 = append_cancel_left before more (front ++ grows.0) (grows.1 ∙ append_assoc before front grows.0) in
    subst (AreTimely start number before) (sym parts) (more_timely start number before front grows.0 timely grows.2)

-- ---- all batches of a step have its moment
abbrev IsReadingNote : Noted → Type 0
IsReadingNote note = (now : ℕ) → IsNotedAt now note

reading_note : (name : List ℕ) (moment : ℕ) (reading : Reading) → IsReadingNote (Added (entry_of name moment reading))
reading_note name moment (Events taken events skipped) now = tt
reading_note name moment (Table taken table rows) now = tt

module _ (start : Kept) (workers : List ℕ) where
  abbrev IsEither : ℕ × Noted → Type 0
  IsEither note = Contains workers note.0 ⊎ IsReadingNote note.1

  all_now : (now : ℕ) (before more : Stamped) → moment_at start (entries before) ≡ now → All (λ (worker : ℕ). AreTimely start worker before more) workers → All IsEither more → All (λ (note : ℕ × Noted). HoldsIn (λ (entry : Entry). moment_in entry ≡ None) note.1) more
      → All (λ (note : ℕ × Noted). IsNotedAt now note.1) more
  all_now now before [] at timely either still = All-nil (λ (note : ℕ × Noted). IsNotedAt now note.1)
  all_now now before (note ∷ more) at timely either still =
      let S : ℕ × Noted → Type 0 = λ (note : ℕ × Noted). HoldsIn (λ (entry : Entry). moment_in entry ≡ None) note.1 in
      let here : IsNotedAt (moment_at start (entries before)) note.1 = elim (All-head IsEither note more either) [
        | inl at ↦ (All-contains (λ (worker : ℕ). AreTimely start worker before (note ∷ more)) workers note.0 timely at).0 refl
        | inr reading ↦ reading (moment_at start (entries before))
      ] in
      let rest = All-weaker (λ (worker : ℕ). AreTimely start worker before (note ∷ more)) (λ (worker : ℕ). AreTimely start worker (before ++ note ∷ []) more) (λ worker t. t.1) workers timely in
      All-cons (λ (note : ℕ × Noted). IsNotedAt now note.1) note more (subst (λ (n : ℕ). IsNotedAt n note.1) at here)
      (all_now now (before ++ note ∷ []) more (moment_next before note (All-head S note more still) ∙ at) rest (All-tail IsEither note more either) (All-tail S note more still))
    where
      moment_noted : (before : List Noted) (note : Noted) → HoldsIn (λ (entry : Entry). moment_in entry ≡ None) note → moment_at start (before ++ note ∷ []) ≡ moment_at start before
      moment_noted before note still = ap (last_of moment_in start.counts.moment) (entries_in-append before (note ∷ [])) ∙ last_of-append moment_in start.counts.moment (entries_in before) (entries_in (note ∷ [])) ∙ by note still
        where
          by : (note : Noted) → HoldsIn (λ (entry : Entry). moment_in entry ≡ None) note → last_of moment_in (moment_at start before) (entries_in (note ∷ [])) ≡ moment_at start before
          by (Added entry) still = ap (λ (o : Option ℕ). unwrap_or o (moment_at start before)) still
          by Taken still = refl
          by (Given cut) still = refl

      moment_next : (before : Stamped) (note : ℕ × Noted) → HoldsIn (λ (entry : Entry). moment_in entry ≡ None) note.1 → moment_at start (entries (before ++ note ∷ [])) ≡ moment_at start (entries before)
      moment_next before note still =
          ap (moment_at start) (map-append (λ (x : ℕ × Noted). x.1) before (note ∷ [])) ∙ moment_noted (entries before) note.1 still

-- ---- what is due by the values of a state
counts_more : (counts : Counts) (xs ys : List Entry) → counts_after counts (xs ++ ys) ≡ counts_after (counts_after counts xs) ys
counts_more counts [] ys = refl
counts_more counts (x ∷ xs) ys = counts_more (counts_next counts x) xs ys

next_moment : (counts : Counts) (entry : Entry) → (counts_next counts entry).moment ≡ unwrap_or (moment_in entry) counts.moment
next_moment counts (Opened session rules) = refl
next_moment counts (Configured documents schedule moment) = refl
next_moment counts (Ticked moment) = refl
next_moment counts (Appended source taken events skipped moment) = refl
next_moment counts (TableSet source table rows taken) = refl
next_moment counts (Expired table floor moment) = refl
next_moment counts (Committed batch) = refl
next_moment counts (Acked upto) = refl

-- the moment of the counts is that of the entries
pub counts_moment : (counts : Counts) (entries : List Entry) → (counts_after counts entries).moment ≡ last_of moment_in counts.moment entries
counts_moment counts [] = refl
counts_moment counts (entry ∷ entries) =
    counts_moment (counts_next counts entry) entries ∙ ap (λ (n : ℕ). last_of moment_in n entries) (next_moment counts entry)

module _ (now : ℕ) (scheduled : Scheduled) (least : 1 ≤ scheduled.interval) where
  -- a batch of this moment makes nothing due
  not_by_batch : (runs : List Run) (entry : Entry) (counts : Counts) → counts.runs ≡ runs → IsMadeAt now entry → is_due_by runs now scheduled ≡ false → is_due_by (counts_next counts entry).runs now scheduled ≡ false
  not_by_batch runs (Committed batch) counts are made not_due = by (is_due_by (with_batch runs batch.query batch.number batch.hi now) now scheduled) refl
    where
      same : is_due_by (counts_next counts (Committed batch)).runs now scheduled ≡ is_due_by (with_batch runs batch.query batch.number batch.hi now) now scheduled
      same = λ i. is_due_by (with_batch (are i) batch.query batch.number batch.hi (made i)) now scheduled

      by : (b : Bool) → is_due_by (with_batch runs batch.query batch.number batch.hi now) now scheduled ≡ b → is_due_by (counts_next counts (Committed batch)).runs now scheduled ≡ false
      by true e = absurd (true≢false (sym (was_due batch.query batch.number batch.hi now runs scheduled least e) ∙ not_due))
      by false e = same ∙ e
  not_by_batch runs (Opened session rules) counts are made not_due = ap (λ (runs : List Run). is_due_by runs now scheduled) are ∙ not_due
  not_by_batch runs (Configured documents schedule moment) counts are made not_due = ap (λ (runs : List Run). is_due_by runs now scheduled) are ∙ not_due
  not_by_batch runs (Ticked moment) counts are made not_due = ap (λ (runs : List Run). is_due_by runs now scheduled) are ∙ not_due
  not_by_batch runs (Appended source taken events skipped moment) counts are made not_due = ap (λ (runs : List Run). is_due_by runs now scheduled) are ∙ not_due
  not_by_batch runs (TableSet source table rows taken) counts are made not_due = ap (λ (runs : List Run). is_due_by runs now scheduled) are ∙ not_due
  not_by_batch runs (Expired table floor moment) counts are made not_due = ap (λ (runs : List Run). is_due_by runs now scheduled) are ∙ not_due
  not_by_batch runs (Acked upto) counts are made not_due = ap (λ (runs : List Run). is_due_by runs now scheduled) are ∙ not_due

  pub not_by_more : (entries : List Entry) (counts : Counts) → All (IsMadeAt now) entries → is_due_by counts.runs now scheduled ≡ false → is_due_by (counts_after counts entries).runs now scheduled ≡ false
  not_by_more [] counts made not_due = not_due
  not_by_more (entry ∷ entries) counts made not_due =
      not_by_more entries (counts_next counts entry) (All-tail (IsMadeAt now) entry entries made) (not_by_batch counts.runs entry counts refl (All-head (IsMadeAt now) entry entries made) not_due)

none_kept : {X : Type 0} (p : X → Bool) (xs : List X) → filter p xs ≡ [] → All (λ (x : X). p x ≡ false) xs
none_kept p [] none = All-nil (λ x. p x ≡ false)
none_kept {X} p (x ∷ xs) none = by (p x) refl (none_kept p xs) none
  where
    by : (b : Bool) → p x ≡ b → (filter p xs ≡ [] → All (λ (y : X). p y ≡ false) xs) → cond b (x ∷ filter p xs) (filter p xs) ≡ [] → All (λ (y : X). p y ≡ false) (x ∷ xs)
    by true e rest none = absurd (cc)
    by false e rest none = All-cons (λ (y : X). p y ≡ false) x xs e (rest none)

to_the_end : {X : Type 0} (p : X → Bool) (xs : List X) → All (λ (x : X). p x ≡ false) xs → position_or_len p xs ≡ length xs
to_the_end p [] none = refl
to_the_end {X} p (x ∷ xs) none =
    let rest = to_the_end p xs (All-tail (λ (x : X). p x ≡ false) x xs none) in
    let more : 1 + position_or_len p xs ≡ suc (length xs) = omega (arith, rest) in
    ap (λ (b : Bool). cond (not b) (1 + position_or_len p xs) 0) (All-head (λ (x : X). p x ≡ false) x xs none) ∙ more

none_found : {X : Type 0} (p : X → Bool) (xs : List X) → All (λ (x : X). p x ≡ false) xs → position p xs ≡ None
none_found p xs none =
    let at = to_the_end p xs none in
    let beyond : nat_lt (position_or_len p xs) (length xs) ≡ false = grind (arith, nat_tests, at) in
    ap (λ (b : Bool). cond b (Some (position_or_len p xs)) None) beyond

found_none : {X : Type 0} (p : X → Bool) (xs : List X) → position p xs ≡ None → All (λ (x : X). p x ≡ false) xs
found_none p xs none = none_kept p xs (none_pass p xs (no_position p xs none))

-- an entry within a step begins no session, tick or schedule
no_tick : (entry : Entry) → is_within entry ≡ true → tick_in entry ≡ None
no_tick (Opened session rules) is = absurd (true≢false (sym is))
no_tick (Configured documents schedule moment) is = refl
no_tick (Ticked moment) is = absurd (true≢false (sym is))
no_tick (Appended source taken events skipped moment) is = refl
no_tick (TableSet source table rows taken) is = refl
no_tick (Expired table floor moment) is = refl
no_tick (Committed batch) is = refl
no_tick (Acked upto) is = refl

no_scheduled : (entry : Entry) → is_within entry ≡ true → schedule_in entry ≡ None
no_scheduled (Opened session rules) is = absurd (true≢false (sym is))
no_scheduled (Configured documents schedule moment) is = absurd (true≢false (sym is))
no_scheduled (Ticked moment) is = refl
no_scheduled (Appended source taken events skipped moment) is = refl
no_scheduled (TableSet source table rows taken) is = refl
no_scheduled (Expired table floor moment) is = refl
no_scheduled (Committed batch) is = refl
no_scheduled (Acked upto) is = refl

none_last : {Y : Type 0} (found : Entry → Option Y) (y : Y) (more : List Entry) → All (λ (entry : Entry). found entry ≡ None) more → last_of found y more ≡ y
none_last found y [] none = refl
none_last found y (entry ∷ more) none =
    ap (λ (o : Option _). last_of found (unwrap_or o y) more) (All-head (λ (entry : Entry). found entry ≡ None) entry more none) ∙ none_last found y more (All-tail (λ (entry : Entry). found entry ≡ None) entry more none)

-- what leaves ticks and schedules alone, and whose batches have the present moment, leaves nothing due
module _ (one other : Kept) (more : List Entry) (runnable : All IsRunnable one.schedule.queries) (counts : other.counts ≡ counts_after one.counts more) (schedule : other.schedule ≡ one.schedule) (ticked : other.ticked ≡ one.ticked) (moment : other.counts.moment ≡ one.counts.moment) (made : All (IsMadeAt one.counts.moment) more) where
  same : first_due other ≡ cond one.ticked (position (is_due_by (counts_after one.counts more).runs one.counts.moment) one.schedule.queries) None
  same = λ i. cond (ticked i) (position (is_due_by (counts i).runs (moment i)) (schedule i).queries) None

  pub undue : first_due one ≡ None → first_due other ≡ None
  undue none = same ∙ by one.ticked refl
    where
      by : (b : Bool) → one.ticked ≡ b → cond one.ticked (position (is_due_by (counts_after one.counts more).runs one.counts.moment) one.schedule.queries) None ≡ None
      by false e = ap (λ (b : Bool). cond b (position (is_due_by (counts_after one.counts more).runs one.counts.moment) one.schedule.queries) None) e
      by true e =
          let at : position (is_due_by one.counts.runs one.counts.moment) one.schedule.queries ≡ None = sym (ap (λ (b : Bool). cond b (position (is_due_by one.counts.runs one.counts.moment) one.schedule.queries) None) e) ∙ none in
          let before = found_none (is_due_by one.counts.runs one.counts.moment) one.schedule.queries at in
          ap (λ (b : Bool). cond b (position (is_due_by (counts_after one.counts more).runs one.counts.moment) one.schedule.queries) None) e
          ∙ none_found (is_due_by (counts_after one.counts more).runs one.counts.moment) one.schedule.queries
          (λ k d h. not_by_more one.counts.moment (get_or one.schedule.queries k d) (runnable k d h).at_least more one.counts made (before k d h))

-- it holds of the notes' entries, and so of the notes
notes_of_entries : (Q : Entry → Type 0) (more : Stamped) → All Q (entries_in (entries more)) → All (λ (note : ℕ × Noted). HoldsIn Q note.1) more
notes_of_entries Q [] all = All-nil (λ (note : ℕ × Noted). HoldsIn Q note.1)
notes_of_entries Q (note ∷ more) all = by note.1 all (notes_of_entries Q more)
  where
    by : (first : Noted) → All Q (entries_in (first ∷ entries more)) → (All Q (entries_in (entries more)) → All (λ (note : ℕ × Noted). HoldsIn Q note.1) more) → All (λ (note : ℕ × Noted). HoldsIn Q note.1) ((note.0, first) ∷ more)
    by (Added entry) all rest =
        All-cons (λ (note : ℕ × Noted). HoldsIn Q note.1) (note.0, Added entry) more (All-head Q entry (entries_in (entries more)) all) (rest (All-tail Q entry (entries_in (entries more)) all))
    by Taken all rest = All-cons (λ (note : ℕ × Noted). HoldsIn Q note.1) (note.0, Taken) more tt (rest all)
    by (Given cut) all rest = All-cons (λ (note : ℕ × Noted). HoldsIn Q note.1) (note.0, Given cut) more tt (rest all)

held_in : (now : ℕ) (note : Noted) → IsNotedAt now note → HoldsIn (IsMadeAt now) note
held_in now (Added entry) is = is
held_in now Taken is = tt
held_in now (Given cut) is = tt

made_entries : (now : ℕ) (more : Stamped) → All (λ (note : ℕ × Noted). IsNotedAt now note.1) more → All (IsMadeAt now) (entries_in (entries more))
made_entries now more all =
    entries_all (IsMadeAt now) (entries more) (All-map (HoldsIn (IsMadeAt now)) (λ (note : ℕ × Noted). note.1) more (All-weaker (λ (note : ℕ × Noted). IsNotedAt now note.1) (λ (note : ℕ × Noted). HoldsIn (IsMadeAt now) note.1) (λ note. held_in now note.1) more all))

pub stay_undue : StayUndue
stay_undue start parts workers before more front rest state added timely are due stands =
    undue one state rest_entries due.is.schedule.runnable counts schedule ticked moment made due.none
  where
    one : Kept
    one = due.state

    rest_entries : List Entry
    rest_entries = entries_in (entries rest)

    seen : List Entry
    seen = entries_in (entries (before ++ front))

    all : entries_in (entries (before ++ more)) ≡ seen ++ rest_entries
    all =
        ap (λ (l : Stamped). entries_in (entries (before ++ l))) are ∙ ap (λ (l : Stamped). entries_in (entries l)) (sym (append_assoc before front rest))
        ∙ ap entries_in (map-append (λ (x : ℕ × Noted). x.1) (before ++ front) rest) ∙ entries_in-append (entries (before ++ front)) (entries rest)

    still : All IsStill rest_entries
    still =
        let whole : entries_in (entries more) ≡ entries_in (entries front) ++ rest_entries = ap (λ (l : Stamped). entries_in (entries l)) are ∙ ap entries_in (map-append (λ (x : ℕ × Noted). x.1) front rest) ∙ entries_in-append (entries front) (entries rest) in
        all_right IsStill (entries_in (entries front)) rest_entries (subst (All IsStill) whole (all_still parts workers more added))

    counts : state.counts ≡ counts_after one.counts rest_entries
    counts =
        stands.comes.counts ∙ ap (counts_after start.counts) all ∙ counts_more start.counts seen rest_entries
        ∙ ap (λ (c : Counts). counts_after c rest_entries) (sym due.stands.comes.counts)

    schedule : state.schedule ≡ one.schedule
    schedule =
        stands.comes.schedule ∙ ap (last_of schedule_in start.schedule) all ∙ last_of-append schedule_in start.schedule seen rest_entries
        ∙ none_last schedule_in (last_of schedule_in start.schedule seen) rest_entries (All-weaker IsStill (λ (entry : Entry). schedule_in entry ≡ None) (λ entry s. no_scheduled entry s.0) rest_entries still) ∙ sym due.stands.comes.schedule

    ticked : state.ticked ≡ one.ticked
    ticked =
        stands.comes.ticked ∙ ap (last_of tick_in start.ticked) all ∙ last_of-append tick_in start.ticked seen rest_entries
        ∙ none_last tick_in (last_of tick_in start.ticked seen) rest_entries (All-weaker IsStill (λ (entry : Entry). tick_in entry ≡ None) (λ entry s. no_tick entry s.0) rest_entries still) ∙ sym due.stands.comes.ticked

    moment : state.counts.moment ≡ one.counts.moment
    moment =
        ap (λ (c : Counts). c.moment) counts ∙ counts_moment one.counts rest_entries ∙ none_last moment_in one.counts.moment rest_entries (All-weaker IsStill (λ (entry : Entry). moment_in entry ≡ None) (λ entry s. s.1) rest_entries still)

    now : ℕ
    now = moment_at start (entries before)

    -- the moment of the state is that before the step
    same : one.counts.moment ≡ now
    same =
        ap (λ (c : Counts). c.moment) due.stands.comes.counts ∙ counts_moment start.counts seen
        ∙ ap (last_of moment_in start.counts.moment) (ap entries_in (map-append (λ (x : ℕ × Noted). x.1) before front) ∙ entries_in-append (entries before) (entries front)) ∙ last_of-append moment_in start.counts.moment (entries_in (entries before)) (entries_in (entries front))
        ∙ none_last moment_in now (entries_in (entries front)) (All-weaker IsStill (λ (entry : Entry). moment_in entry ≡ None) (λ entry s. s.1) (entries_in (entries front)) front_still)
      where
        whole : entries_in (entries more) ≡ entries_in (entries front) ++ rest_entries
        whole =
            ap (λ (l : Stamped). entries_in (entries l)) are ∙ ap entries_in (map-append (λ (x : ℕ × Noted). x.1) front rest) ∙ entries_in-append (entries front) (entries rest)

        front_still : All IsStill (entries_in (entries front))
        front_still =
            all_left IsStill (entries_in (entries front)) rest_entries (subst (All IsStill) whole (all_still parts workers more added))

    either : All (IsEither start workers) more
    either = each_added parts workers more added (λ (number : ℕ) (note : Noted). Contains workers number ⊎ IsReadingNote note)
        (λ k d h moment reading. inr (reading_note (get_or parts k d).name moment reading))
        (λ k d h note is. inl (Contains-get_or workers k d h))

    notes_still : All (λ (note : ℕ × Noted). HoldsIn (λ (entry : Entry). moment_in entry ≡ None) note.1) more
    notes_still = notes_of_entries (λ (entry : Entry). moment_in entry ≡ None) more (All-weaker IsStill (λ (entry : Entry). moment_in entry ≡ None) (λ entry s. s.1) (entries_in (entries more)) (all_still parts workers more added))

    made : All (IsMadeAt one.counts.moment) rest_entries
    made =
        let whole = all_now start workers now before more refl timely either notes_still in
        let behind = all_right (λ (note : ℕ × Noted). IsNotedAt now note.1) front rest (subst (All (λ (note : ℕ × Noted). IsNotedAt now note.1)) are whole) in
        subst (λ (n : ℕ). All (IsMadeAt n) rest_entries) (sym same) (made_entries now rest behind)
