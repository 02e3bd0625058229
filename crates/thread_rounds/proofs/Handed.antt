-- What the seats of a step hand on, once they are joined.
use Rattle.std.proofs.Common.{◌≡◌, ◌≢◌, inl, inr, ℕ, Bool, true, false, cond, List, [], ◌∷◌, ◌++◌, refl, sym, ap, ◌∙◌, subst, eq-eqb, ne_eqb, Ok}
use Rattle.std.specs.Prelude.{All, OnOk, Result}
use Rattle.std.specs.List.{AllZip}
use Rattle.std.proofs.lemmas.List.Elements.{All-head, All-nil, All-tail}
use mathlib.Core.Logic.{dite}
use native.Mathlib.Decide.{ℕ_discrete}
use Rattle.osq_value.specs.declared.reading.Reading.{Reading}
use Rattle.osq_value.specs.declared.reading.Reading.TheVariants.{Events, Table}
use Rattle.entry_model.specs.Next.{offset_at}
use Rattle.entry_model.specs.declared.entry.Entry.{Entry}
use Rattle.entry_model.specs.declared.entry.Entry.TheVariants.{Opened, Configured, Ticked, Appended, TableSet, Expired, Committed, Acked}
use Rattle.session_model.specs.Taking.{is_from}
use Rattle.session_state.specs.Kept.{Counts, counts_next}
use Rattle.session_state.specs.Readings.{entry_of, taken_of}
use Rattle.turn_lock.specs.Own.{own}
use Rattle.turn_lock.specs.Turns.{Grows, entries}
use Rattle.turn_lock.specs.Words.{number, seen}
use Rattle.shared_store.specs.declared.noted.Noted.{Noted}
use Rattle.shared_store.specs.declared.noted.Noted.TheVariants.{Added, Given, Taken}
use Rattle.shared_store.specs.declared.store.Store.{Store}
use Rattle.shared_store.specs.Notes.{entries_in}
use Rattle.shared_store.specs.Values.{counts_after}
use Rattle.shared_store.specs.Words.{IsSeatOf, start_of}
use Rattle.daemon_rounds.specs.Appending.{end_behind}
use Rattle.daemon_rounds.specs.Turns.{Turn}
use Rattle.daemon_rounds.proofs.Offsets.{offset_here, offset_other}
use Rattle.thread_laws.specs.Jobs.{AddsOwn, IsAnswerNote, IsNoteOf, IsPublished, IsWorked, Stamped, is_noted_from}
use Rattle.thread_laws.specs.Joining.{HasEnded, HasPublished, HasWorked, Part}
use Rattle.thread_laws.specs.Reached.{NoneDue}
use Rattle.thread_laws.specs.Timely.{AreTimely}
use Rattle.thread_laws.proofs.Agreed.{bytes_same, zip_notes}
use Rattle.thread_laws.proofs.Joined.{own_joined}
use Rattle.thread_laws.proofs.Timely.{timely_joined}
use Rattle.thread_jobs.specs.declared.forking.Job.{Job}
use Rattle.thread_jobs.specs.Forking.{IsWorkerDone}
use Rattle.thread_jobs.specs.Publishing.{IsTaken}
use Rattle.thread_rounds.proofs.Taken.{IsDone, One}

read_from : (name : List ℕ) (moment : ℕ) (reading : Reading) → is_noted_from name (Added (entry_of name moment reading)) ≡ true
read_from name moment (Events taken events skipped) = bytes_same name
read_from name moment (Table taken table rows) = bytes_same name

-- ---- offsets
one_unmoved : (name : List ℕ) (c : Counts) (entry : Entry) → is_from name entry ≡ false → offset_at (counts_next c entry).taken name ≡ offset_at c.taken name
one_unmoved name c (Opened session rules) none = refl
one_unmoved name c (Configured document schedule moment) none = refl
one_unmoved name c (Ticked moment) none = refl
one_unmoved name c (Appended source taken events skipped moment) none = offset_other source taken name none c.taken
one_unmoved name c (TableSet source table rows taken) none = offset_other source taken name none c.taken
one_unmoved name c (Expired table floor moment) none = refl
one_unmoved name c (Committed batch) none = refl
one_unmoved name c (Acked upto) none = refl

offset_read : (name : List ℕ) (c : Counts) (moment : ℕ) (reading : Reading) → offset_at (counts_next c (entry_of name moment reading)).taken name ≡ taken_of reading
offset_read name c moment (Events taken events skipped) = offset_here name taken c.taken
offset_read name c moment (Table taken table rows) = offset_here name taken c.taken

-- the counts behind one note more
abbrev counts_noted : Counts → Noted → Counts
counts_noted c (Added entry) = counts_next c entry
counts_noted c Taken = c
counts_noted c (Given cut) = c

counts_step : (c : Counts) (note : Noted) (notes : List Noted) → counts_after c (entries_in (note ∷ notes)) ≡ counts_after (counts_noted c note) (entries_in notes)
counts_step c (Added entry) notes = refl
counts_step c Taken notes = refl
counts_step c (Given cut) notes = refl

note_unmoved : (name : List ℕ) (c : Counts) (note : Noted) → is_noted_from name note ≡ false → offset_at (counts_noted c note).taken name ≡ offset_at c.taken name
note_unmoved name c (Added entry) none = one_unmoved name c entry none
note_unmoved name c Taken none = refl
note_unmoved name c (Given cut) none = refl

-- where the notes of the source are those under one number, which are of these readings, the last of these says how far the source is taken
pub offset_own : (n : ℕ) (name : List ℕ) (more : Stamped) (c : Counts) (readings : List Reading) → All (λ (note : ℕ × Noted). is_noted_from name note.1 ≡ true → note.0 ≡ n) more → AllZip (IsNoteOf name) readings (own n more)
    → offset_at (counts_after c (entries_in (entries more))).taken name ≡ end_behind (offset_at c.taken name) readings
offset_own n name [] c [] only zip = refl
offset_own n name [] c (reading ∷ readings) only zip = absurd zip
offset_own n name (note ∷ more) c readings only zip =
    ap (λ (k : Counts). offset_at k.taken name) (counts_step c note.1 (entries more))
    ∙ dite (ℕ_discrete note.0 n)
    (λ same. own_note readings (subst (λ (b : Bool). AllZip (IsNoteOf name) readings (cond b (note.1 ∷ own n more) (own n more))) (eq-eqb note.0 n same) zip)
    (λ (k : Counts) (rs : List Reading). offset_own n name more k rs (All-tail Only note more only)))
    (λ differ. offset_own n name more (counts_noted c note.1) readings (All-tail Only note more only) (subst (λ (b : Bool). AllZip (IsNoteOf name) readings (cond b (note.1 ∷ own n more) (own n more))) (ne_eqb note.0 n differ) zip)
    ∙ ap (λ (offset : ℕ). end_behind offset readings) (note_unmoved name c note.1 (of_other (is_noted_from name note.1) refl differ)))
  where
    Only : ℕ × Noted → Type 0
    Only note = is_noted_from name note.1 ≡ true → note.0 ≡ n

    of_other : (b : Bool) → is_noted_from name note.1 ≡ b → (note.0 ≢ n) → is_noted_from name note.1 ≡ false
    of_other false is differ = is
    of_other true is differ = absurd (differ (All-head Only note more only is))

    own_note : (readings : List Reading) → AllZip (IsNoteOf name) readings (note.1 ∷ own n more) → ((k : Counts) (rs : List Reading) → AllZip (IsNoteOf name) rs (own n more) → offset_at (counts_after k (entries_in (entries more))).taken name ≡ end_behind (offset_at k.taken name) rs)
        → offset_at (counts_after (counts_noted c note.1) (entries_in (entries more))).taken name ≡ end_behind (offset_at c.taken name) readings
    own_note [] zip rest = absurd zip
    own_note (reading ∷ readings) zip rest =
        rest (counts_noted c note.1) readings zip.1
        ∙ ap (λ (offset : ℕ). end_behind offset readings) (ap (λ (n : Noted). offset_at (counts_noted c n).taken name) zip.0.1 ∙ offset_read name c zip.0.0 reading)

-- ---- one publisher
module _ {S : Type 0} (tells : Type 0) (left : S → List ℕ) (faults : S → ℕ) (most : ℕ) (before more : Stamped) (one : One S) (done : IsDone tells left faults most one) (sees : seen one.old.seat ≡ before) (stands : Grows (λ (n : ℕ). n ≢ number one.new.seat) (seen one.new.seat) (before ++ more)) where
  abbrev name : List ℕ
  name = one.feed.name

  abbrev at : ℕ
  at = number one.old.seat

  grows : Grows (λ (n : ℕ). n ≢ at) (seen one.new.seat) (before ++ more)
  grows = subst (λ (k : ℕ). Grows (λ (n : ℕ). n ≢ k) (seen one.new.seat) (before ++ more)) done.back.same.number stands

  -- what its seat had added is what the joined list has under its number
  own_of : (notes : List Noted) → AddsOwn at (seen one.old.seat) (seen one.new.seat) notes → own at more ≡ notes
  own_of notes adds = own_joined at before (seen one.new.seat) more notes (subst (λ (l : Stamped). AddsOwn at l (seen one.new.seat) notes) sees adds) grows

  -- whatever comes of it, these are notes of its source
  pub noted_own : All (λ (note : Noted). is_noted_from name note ≡ true) (own at more)
  noted_own = elim done.part [
    | inl none ↦ subst (All (λ (note : Noted). is_noted_from name note ≡ true)) (sym (own_of [] none)) (All-nil (λ (note : Noted). is_noted_from name note ≡ true))
    | inr some ↦ subst (All (λ (note : Noted). is_noted_from name note ≡ true)) (sym (own_of some.front.published.notes some.front.published.adds)) (zip_notes name (λ (note : Noted). is_noted_from name note ≡ true) (read_from name) some.front.done some.front.published.notes some.front.published.each)
  ]

  module _ (taken : IsTaken tells (left one.source) (left one.rest) most at (seen one.old.seat) (seen one.new.seat) one.feed one.next) where
    abbrev pub part_of : Part
    part_of = record { number = at; name = name; readings = taken.readings }

    abbrev pub turn_taken : Turn S
    turn_taken = record { feed = one.feed; next = one.next; source = one.source; rest = one.rest; readings = taken.readings }

    pub published_part : HasPublished before (before ++ more) part_of
    published_part = record {
      after = seen one.new.seat;
      is = subst (λ (l : Stamped). IsPublished at l (seen one.new.seat) name taken.readings) sees taken.published;
      joined = grows;
    }

    pub readings_own : AllZip (IsNoteOf name) taken.readings (own at more)
    readings_own = subst (AllZip (IsNoteOf name) taken.readings) (sym (own_of taken.published.notes taken.published.adds)) taken.published.each

-- ---- one worker
module _ (store : Store) (before more : Stamped) (old new : Job) (done : IsWorkerDone old new) (of : IsSeatOf store old.seat) (sees : seen old.seat ≡ before) (stands : Grows (λ (n : ℕ). n ≢ number new.seat) (seen new.seat) (before ++ more)) where
  abbrev worker_at : ℕ
  worker_at = number old.seat

  worker_grows : Grows (λ (n : ℕ). n ≢ worker_at) (seen new.seat) (before ++ more)
  worker_grows = subst (λ (k : ℕ). Grows (λ (n : ℕ). n ≢ k) (seen new.seat) (before ++ more)) done.back.same.number stands

  worked : IsWorked worker_at before (seen new.seat)
  worked = subst (λ (l : Stamped). IsWorked worker_at l (seen new.seat)) sees (done.own store of).worked

  abbrev has_worked : HasWorked before (before ++ more) worker_at
  has_worked = record { after = seen new.seat; is = worked; joined = worker_grows }

  pub answered_own : All IsAnswerNote (own worker_at more)
  answered_own = subst (All IsAnswerNote) (sym (own_joined worker_at before (seen new.seat) more worked.notes worked.adds worker_grows)) worked.each

  pub has_ended : new.end ≡ Ok tt → HasEnded (start_of store) before (before ++ more) worker_at
  has_ended ok = record {
    worked = has_worked;
    none = subst (λ (end : Result (Unit {0}) _). OnOk end (NoneDue (start_of store) (entries (seen new.seat)))) ok (done.none store of);
  }

  pub timely_own : AreTimely (start_of store) worker_at before more
  timely_own =
      let timely = (done.own store of).timely in
      let grown : seen new.seat ≡ before ++ timely.more = timely.grown ∙ ap (λ (l : Stamped). l ++ timely.more) sees in
      timely_joined (start_of store) worker_at before timely.more more
      (subst (λ (l : Stamped). AreTimely (start_of store) worker_at l timely.more) sees timely.timely)
      (subst (λ (l : Stamped). Grows (λ (n : ℕ). n ≢ worker_at) l (before ++ more)) grown worker_grows)
