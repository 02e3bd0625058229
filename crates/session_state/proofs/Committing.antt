-- A batch of a cut that nothing outdates may be committed, and the state keeps what is known of it.
use Rattle.std.proofs.Common.{◌≡◌, ℕ, suc, ◌+◌, ◌-◌, ◌<◌, ◌≤◌, ◌/◌, ◌^◌, Bool, true, false, cond, List, [], ◌∷◌, ◌++◌, length, set, Option, Some, None, refl, sym, ap, ◌∙◌, subst, arith, append_assoc, length-append}
use Rattle.std.specs.Prelude.{All, find, is_some, not, nat_le, nat_lt, ◌==◌, if◌then◌else◌}
use Rattle.std.specs.List.{list_any}
use Rattle.std.proofs.lemmas.Bool.Decides.{nat_tests}
use Rattle.std.proofs.lemmas.List.Elements.{All-contains}
use Rattle.osq_value.specs.declared.value.Value.{Value}
use Rattle.sql_texts.specs.Meaning.{meaning, is_accepted, names_of}
use Rattle.sql_texts.proofs.Wide.{are_wide}
use Rattle.entry_model.specs.declared.entry.Batch.{Batch}
use Rattle.session_state.specs.Sealing.{IsSendable}
use Rattle.session_state.specs.Computed.{schedule_shown}
use Rattle.session_state.specs.Listed.{RowsAndStale, AreFresh}
use Rattle.session_state.proofs.Listing.{fresh_after, rows_kept}
use Rattle.std.proofs.lemmas.List.{length-map}
use Rattle.pack_rules.specs.declared.schedule.QueryKey.{QueryKey}
use Rattle.pack_rules.specs.Keys.{same_key}
use Rattle.entry_model.specs.declared.entry.Entry.{Entry}
use Rattle.entry_model.specs.declared.entry.Entry.TheVariants.{Opened, Configured, Ticked, Committed}
use Rattle.entry_model.specs.declared.restored.Restored.{Restored}
use Rattle.entry_model.specs.declared.restored.Run.{Run}
use Rattle.entry_model.specs.Values.{last_of, tick_in, has_ticked, last_number, moment_of, commits, batches_of, number_of}
use Rattle.entry_model.specs.Views.{view_of}
use Rattle.entry_model.specs.Legal.{Legal, LegalNext, MayCommit, is_mark, begins_at}
use Rattle.entry_model.specs.Summary.{summary}
use Rattle.pack_rules.specs.Sound.{IsRunnable}
use Rattle.entry_model.specs.Runs.{with_batch}
use Rattle.entry_model.specs.Reserved.{has_run}
use Rattle.entry_model.proofs.Commits.{may_commit, current_from, none_later}
use Rattle.entry_model.proofs.Lasts.{last_of-append}
use Rattle.event_store.specs.Contents.{rows_in}
use Rattle.query_cursors.specs.Due as cursors
use Rattle.query_cursors.specs.Due.{run_of}
use Rattle.query_cursors.specs.Places.{places_of}
use Rattle.query_cursors.proofs.Noting.{places_kept}
use Rattle.session_state.specs.declared.state.CommitRefusal.TheVariants.{Superseded, NumbersSpent}
use Rattle.session_state.specs.Kept.{Counts, Kept, IsRun, IsState}
use Rattle.session_state.specs.Rooms.{all_due, is_new, all_new}
use Rattle.session_state.specs.Marks.{mark_in, marks_from}
use Rattle.session_state.specs.StateOf.{HasValues, IsStateOf, Moves}
use Rattle.session_state.specs.Cut.{CutValue, batch_of}
use Rattle.session_state.specs.Cutting.{CutStands}
use Rattle.session_state.specs.CutOf.{mark_from, IsCurrent, IsCutOf}
use Rattle.session_state.specs.Commits.{Commits, committed, commit_refusal, refusal_by}
use Rattle.session_state.proofs.Added.{stands_next}
use Rattle.session_state.proofs.Known.{known_still}
use Rattle.session_state.proofs.Cutting.{number_same, contains_at}
use Rattle.session_state.proofs.Rooms.{any_found, fewer_due, fewer_new, no_more_new, known_after}

-- nothing keeps the cut from being committed
pub record IsFree (s : Kept) (cut : CutValue) : Type 0 where
  pub same : cursors.number_of s.counts.runs cut.key ≡ cut.last
  pub unmarked : mark_from s cut.position ≡ None
  pub bound : s.counts.batches + 1 ≤ 2 ^ 62

pub is_free : (s : Kept) (cut : CutValue) → commit_refusal s cut ≡ None → IsFree s cut
is_free s cut h = by_number (cursors.number_of s.counts.runs cut.key == cut.last) refl
  where
    by_bound : cursors.number_of s.counts.runs cut.key ≡ cut.last → mark_from s cut.position ≡ None → (b : Bool) → nat_lt (2 ^ 62) (s.counts.batches + 1) ≡ b → cond b (Some (NumbersSpent cut)) None ≡ None → IsFree s cut
    by_bound same unmarked true e k = absurd (cc)
    by_bound same unmarked false e k =
        record { same = same; unmarked = unmarked; bound = grind (arith, nat_tests, e) }

    by_mark : cursors.number_of s.counts.runs cut.key ≡ cut.last → (o : Option ℕ) → mark_from s cut.position ≡ o → refusal_by s cut o ≡ None → IsFree s cut
    by_mark same (Some at) e k = absurd (cc)
    by_mark same None e k = by_bound same e (nat_lt (2 ^ 62) (s.counts.batches + 1)) refl k

    by_number : (b : Bool) → (cursors.number_of s.counts.runs cut.key == cut.last) ≡ b → IsFree s cut
    by_number false e =
        absurd (let k = sym (ap (λ (b : Bool). cond b (refusal_by s cut (mark_from s cut.position)) (Some (Superseded (cursors.number_of s.counts.runs cut.key) cut))) e) ∙ h in cc)
    by_number true e =
        let k = sym (ap (λ (b : Bool). cond b (refusal_by s cut (mark_from s cut.position)) (Some (Superseded (cursors.number_of s.counts.runs cut.key) cut))) e) ∙ h in
        by_mark (grind (arith, nat_tests, e)) (mark_from s cut.position) refl k

marks-append : (place : ℕ) (xs ys : List Entry) → marks_from place (xs ++ ys) ≡ marks_from place xs ++ marks_from (place + length xs) ys
marks-append place [] ys = ap (λ (p : ℕ). marks_from p ys) (omega arith)
marks-append place (x ∷ xs) ys =
    ap (λ (ms : List ℕ). mark_in place x ++ ms) (marks-append (suc place) xs ys ∙ ap (λ (p : ℕ). marks_from (suc place) xs ++ marks_from p ys) (omega arith)) ∙ sym (append_assoc (mark_in place x) (marks_from (suc place) xs) (marks_from (place + length (x ∷ xs)) ys))

-- where nothing passes in a list, nothing does in its end
none_after : {X : Type 0} (p : X → Bool) (xs ys : List X) → find p (xs ++ ys) ≡ None → find p ys ≡ None
none_after p [] ys h = h
none_after {X} p (x ∷ xs) ys h = by_first (p x) refl (none_after p xs ys)
  where
    by_first : (b : Bool) → p x ≡ b → (find p (xs ++ ys) ≡ None → find p ys ≡ None) → find p ys ≡ None
    by_first true e rest = absurd (let k = sym (ap (λ (b : Bool). cond b (Some x) (find p (xs ++ ys))) e) ∙ h in cc)
    by_first false e rest = rest (sym (ap (λ (b : Bool). cond b (Some x) (find p (xs ++ ys))) e) ∙ h)

module _ (position : ℕ) where
  abbrev behind : ℕ → Bool
  behind mark = nat_le position mark

  -- a mark from the position on would be found
  found_here : (place : ℕ) (marks : List ℕ) → position ≤ place → find behind (place ∷ marks) ≡ None → false ≡ true
  found_here place marks low h =
      let passes : nat_le position place ≡ true = grind (arith, nat_tests, low) in
      absurd (let k = sym (ap (λ (b : Bool). cond b (Some place) (find behind marks)) passes) ∙ h in cc)

  -- where no tick is found behind an opening, none has begun
  still_cold : (place : ℕ) (es : List Entry) → position ≤ place → find behind (marks_from place es) ≡ None → last_of tick_in false es ≡ true → false ≡ true
  still_cold place [] low none ticked = ticked
  still_cold place (Opened session rules ∷ es) low none ticked = still_cold (suc place) es (omega (arith, low)) none ticked
  still_cold place (Configured document schedule moment ∷ es) low none ticked = found_here place (marks_from (suc place) es) low none
  still_cold place (Ticked moment ∷ es) low none ticked = found_here place (marks_from (suc place) es) low none
  still_cold place (_ ∷ es) low none ticked = still_cold (suc place) es (omega (arith, low)) none ticked

  -- where no mark is found and the tick goes on, no session was opened either
  pub clear_behind : (place : ℕ) (es : List Entry) (before : Bool) → position ≤ place → find behind (marks_from place es) ≡ None → last_of tick_in before es ≡ true → list_any is_mark es ≡ false
  clear_behind place [] before low none ticked = refl
  clear_behind place (Opened session rules ∷ es) before low none ticked =
      absurd (let k = still_cold (suc place) es (omega (arith, low)) none ticked in cc)
  clear_behind place (Configured document schedule moment ∷ es) before low none ticked =
      absurd (let k = found_here place (marks_from (suc place) es) low none in cc)
  clear_behind place (Ticked moment ∷ es) before low none ticked =
      absurd (let k = found_here place (marks_from (suc place) es) low none in cc)
  clear_behind place (_ ∷ es) before low none ticked = clear_behind (suc place) es before (omega (arith, low)) none ticked

module _ (s : Kept) (cut : CutValue) (is : IsState s) (of : IsCutOf s cut) (free : IsFree s cut) where
  current : IsCurrent s cut
  current = of.current free.unmarked

  -- the batch may follow each list that has the cut
  may_follow : (rows : List (List Value)) → rows ≡ meaning cut.key.text (rows_in cut.view) → (base : Restored) (before since : List Entry) → CutStands base before cut → IsStateOf base (before ++ since) s → (K : List Entry) → Legal K → summary K ≡ base → LegalNext (K ++ (before ++ since)) (committed s cut rows)
  may_follow rows answer base before since cuts stands K legal same =
      let c = cuts K legal same in
      let M = K ++ before in
      let whole : (M ++ since) ≡ K ++ (before ++ since) = append_assoc K before since in
      let h : HasValues (M ++ since) s = subst (λ (es : List Entry). HasValues es s) (sym whole) (stands.values K legal same) in
      let number : number_of (batches_of (M ++ since) cut.key) ≡ number_of (batches_of M cut.key) = number_same (M ++ since) s h cut.key ∙ free.same ∙ c.last in
      let at : length K ≡ base.position = ap (λ (r : Restored). r.position) same in
      let long = length-append K before in
      let place = c.position in
      let marks : find (behind cut.position) (marks_from base.position before ++ marks_from (base.position + length before) since) ≡ None = sym (ap (find (behind cut.position)) (stands.marks ∙ marks-append base.position before since)) ∙ free.unmarked in
      let tick : last_of tick_in (has_ticked M) since ≡ true = sym (last_of-append tick_in false M since) ∙ h.ticked ∙ current.ticked in
      let clear = clear_behind cut.position (base.position + length before) since (has_ticked M) (omega (arith, at, long, place)) (none_after (behind cut.position) (marks_from base.position before) (marks_from (base.position + length before) since) marks) tick in
      let outdated = current_from cut.key since clear (none_later cut.key M since h.legal number) in
      let count : length (commits (M ++ since)) ≡ s.counts.batches = ap (λ (c : Counts). c.batches) h.counts in
      let bound = free.bound in
      let rows_are : rows ≡ meaning cut.key.text (view_of M (begins_at M cut.key cut.key.mode) (moment_of M)) = answer ∙ (λ i. meaning cut.key.text (λ table. c.view table i)) ∙ (λ i. meaning cut.key.text (view_of M (c.lower i) (c.now i))) in
      let may = may_commit M since cut.key outdated rows c.due (omega (arith, bound, count)) rows_are in
      let batch : (record { number = length (commits (M ++ since)) + 1; query = cut.key; lo = begins_at M cut.key cut.key.mode; hi = last_number M; cut = length M; moment = moment_of M; rows = rows }) ≡ batch_of cut (s.counts.batches + 1) rows = λ i. record { number = count i + 1; query = cut.key; lo = sym c.lower i; hi = sym c.upper i; cut = sym c.position i; moment = sym c.now i; rows = rows } in
      subst (λ (es : List Entry). MayCommit es (batch_of cut (s.counts.batches + 1) rows)) whole (subst (MayCommit (M ++ since)) batch may)

  pub commits_is : (new : Kept) (rows : List (List Value)) → rows ≡ meaning cut.key.text (rows_in cut.view) → Moves s (committed s cut rows) new → Commits s cut rows new
  commits_is new rows answer m = record {
    moves = m;
    stands = λ base before since cuts stands. stands_next s new (committed s cut rows) refl is.image m base (before ++ since) stands (may_follow rows answer base before since cuts stands);
    cuts = known_still s new (batch_of cut (s.counts.batches + 1) rows) refl m;
  }

  least : 1 ≤ current.scheduled.interval
  least =
      (All-contains IsRunnable s.schedule.queries current.scheduled is.schedule.runnable (contains_at s.schedule.queries cut.place current.scheduled current.stands)).at_least

  -- one query fewer is due after the batch
  due_left : (number : ℕ) → length (all_due (with_batch s.counts.runs cut.key number cut.hi cut.moment) s.counts.moment s.schedule.queries) + 1 ≤ length (all_due s.counts.runs s.counts.moment s.schedule.queries)
  due_left number =
      subst (λ (m : ℕ). length (all_due (with_batch s.counts.runs cut.key number cut.hi m) s.counts.moment s.schedule.queries) + 1 ≤ length (all_due s.counts.runs s.counts.moment s.schedule.queries)) current.now
      (fewer_due cut.key number cut.hi s.counts.moment s.counts.runs s.schedule.queries is.schedule.runnable cut.place current.scheduled current.stands current.key least (current.due free.same))

  pub has_room : 0 < s.tail_room
  has_room = let left = due_left 0 in let room = is.room in omega (arith, left, room)

  pub room_left : (number left : ℕ) → left + 1 ≡ s.tail_room → length (all_due (with_batch s.counts.runs cut.key number cut.hi cut.moment) s.counts.moment s.schedule.queries) ≤ left
  room_left number left at =
      let due = due_left number in let room = is.room in omega (arith, due, room, at)

  is_first : has_run s.counts.runs cut.key ≡ false → is_new s.counts.runs current.scheduled ≡ true
  is_first none =
      ap (λ (k : QueryKey). not (is_some (run_of s.counts.runs k))) current.key ∙ ap not (sym (any_found (λ (run : Run). same_key run.key cut.key) s.counts.runs) ∙ none)

  new_left : (number : ℕ) → has_run s.counts.runs cut.key ≡ false → length (all_new (with_batch s.counts.runs cut.key number cut.hi cut.moment) s.schedule.queries) + 1 ≤ s.run_room
  new_left number none =
      let left = fewer_new cut.key number cut.hi cut.moment s.counts.runs s.schedule.queries is.schedule.runnable cut.place current.scheduled current.stands current.key (is_first none) in
      let room = is.run_room in
      omega (arith, left, room)

  pub has_run_room : has_run s.counts.runs cut.key ≡ false → 0 < s.run_room
  has_run_room none = let left = new_left 0 none in omega (arith, left)

  pub run_room_left : (number : ℕ) → length (all_new (with_batch s.counts.runs cut.key number cut.hi cut.moment) s.schedule.queries) ≤ (if has_run s.counts.runs cut.key then s.run_room else s.run_room - 1)
  run_room_left number = by_run (has_run s.counts.runs cut.key) refl
    where
      by_run : (b : Bool) → has_run s.counts.runs cut.key ≡ b → length (all_new (with_batch s.counts.runs cut.key number cut.hi cut.moment) s.schedule.queries) ≤ cond b s.run_room (s.run_room - 1)
      by_run true e =
          let left = no_more_new cut.key number cut.hi cut.moment s.counts.runs s.schedule.queries is.schedule.runnable in
          let room = is.run_room in
          omega (arith, left, room)
      by_run false e = let left = new_left number e in omega (arith, left)

  pub places_left : (number : ℕ) → (if has_run s.counts.runs cut.key then s.places else set s.places cut.place (Some (length s.counts.runs))) ≡ places_of (with_batch s.counts.runs cut.key number cut.hi cut.moment) s.schedule.queries
  places_left number =
      ap (λ (places : List (Option ℕ)). if has_run s.counts.runs cut.key then places else set places cut.place (Some (length s.counts.runs))) is.places
      ∙ places_kept cut.key number cut.hi cut.moment s.counts.runs s.schedule.queries cut.place current.scheduled is.schedule.order current.stands current.key

  pub runs_known : (number : ℕ) → number ≤ s.counts.batches + 1 → All (IsRun (s.counts.batches + 1)) (with_batch s.counts.runs cut.key number cut.hi cut.moment)
  runs_known number next =
      let now = current.now in
      let past = is.moment in
      known_after cut.key number cut.hi cut.moment s.counts.batches s.counts.runs next (omega (arith, now, past)) is.runs

-- a state and a cut of it, of which nothing keeps the batch from being added
pub record IsReady (s : Kept) (cut : CutValue) : Type 0 where
  pub is : IsState s
  pub of : IsCutOf s cut
  pub free : IsFree s cut

-- the batch can be sent
pub sendable : (s : Kept) (cut : CutValue) → IsReady s cut → (number : ℕ) (rows : List (List Value)) → rows ≡ meaning cut.key.text (rows_in cut.view) → (batch : Batch) → Committed (batch_of cut number rows) ≡ Committed batch → IsSendable batch
sendable s cut r number rows answer batch e =
    let current = r.of.current r.free.unmarked in
    let same : batch_of cut number rows ≡ batch = cc in
    let runnable = All-contains IsRunnable s.schedule.queries current.scheduled r.is.schedule.runnable (contains_at s.schedule.queries cut.place current.scheduled current.stands) in
    subst IsSendable same (record {
      accepted = ap (λ (key : QueryKey). is_accepted key.text) (sym current.key) ∙ runnable.accepted;
      wide = subst (All (λ (row : List Value). length row ≡ length (names_of cut.key.text))) (sym answer) (are_wide cut.key.text (rows_in cut.view));
      calendar = (let now = current.now in let past = r.is.moment in omega (arith, now, past));
    })

-- the rows of the schedule's table but for the part of the batch's query are right after it
pub listed_after : (s : Kept) (cut : CutValue) → IsReady s cut → (number : ℕ) (listed : RowsAndStale) → AreFresh (schedule_shown s.counts.runs s.schedule.queries) listed → AreFresh (schedule_shown (with_batch s.counts.runs cut.key number cut.hi cut.moment) s.schedule.queries) (record listed { stale = set listed.stale (cut.place / 64) true })
listed_after s cut r number listed fresh =
    let current = r.of.current r.free.unmarked in
    fresh_after (schedule_shown s.counts.runs s.schedule.queries) (schedule_shown (with_batch s.counts.runs cut.key number cut.hi cut.moment) s.schedule.queries) listed cut.place (length-map s.schedule.queries _ ∙ sym (length-map s.schedule.queries _)) (rows_kept cut.key number cut.hi cut.moment s.counts.runs s.schedule.queries cut.place current.scheduled r.is.schedule.order current.stands current.key) fresh

pub ready : (s t : Kept) → s ≡ t → (cut given : CutValue) → cut ≡ given → IsState s → IsCutOf t given → commit_refusal t given ≡ None → IsReady s cut
ready s t same cut given is_given is of free = record {
  is = is;
  of = subst (λ (t : Kept). IsCutOf t cut) (sym same) (subst (IsCutOf t) (sym is_given) of);
  free = is_free s cut (ap (λ (t : Kept). commit_refusal t cut) same ∙ ap (commit_refusal t) is_given ∙ free);
}

-- the batch is added to the state, and answers the cut, by their other names
pub commits_given : (s t : Kept) → s ≡ t → (cut given : CutValue) → cut ≡ given → IsReady s cut → (new : Kept) (rows : List (List Value)) → rows ≡ meaning given.key.text (rows_in given.view) → Moves s (committed s cut rows) new → Commits t given rows new
commits_given s t same cut given is_given r new rows answer m =
    let of_cut = answer ∙ (λ i. meaning (sym is_given i).key.text (rows_in (sym is_given i).view)) in
    subst (λ (t : Kept). Commits t given rows new) same (subst (λ (cut : CutValue). Commits s cut rows new) is_given (commits_is s cut r.is r.of r.free new rows of_cut m))
