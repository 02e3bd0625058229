-- The readings of a source, some of which a seat has added.
use Rattle.std.proofs.Common.{◌≡◌, ◌≢◌, ◌⊎◌, inl, inr, ℕ, ◌+◌, ◌<◌, ◌≤◌, Bool, true, false, List, [], ◌∷◌, ◌++◌, Result, Ok, Err, refl, sym, ap, ap₂, ◌∙◌, subst, append_assoc, append-nil, arith}
use Rattle.std.specs.Prelude.{All, ◌||◌, ◌^◌}
use Rattle.std.specs.List.{AllZip, list_any}
use Rattle.std.proofs.lemmas.List.Elements.{All-tail}
use mathlib.Core.List.{map-append}
use Rattle.osq_value.specs.declared.reading.Reading.{Reading}
use Rattle.osq_value.specs.declared.reading.Reading.TheVariants.{Events, Table}
use Rattle.entry_model.specs.declared.entry.Entry.{Entry}
use Rattle.entry_model.specs.declared.entry.Entry.TheVariants.{Opened, Configured, Ticked, Appended, TableSet, Expired, Committed, Acked}
use Rattle.entry_model.specs.Next.{offset_at}
use Rattle.session_model.specs.Taking.{is_from}
use Rattle.session_state.specs.declared.state.AppendError.{AppendError}
use Rattle.session_state.specs.declared.state.AppendError.TheVariants as append
use Rattle.session_state.specs.Kept.{Counts, Kept, counts_next}
use Rattle.session_state.specs.Readings.{IsReading, entry_of, event_count, taken_of}
use Rattle.turn_lock.specs.declared.board.Stands.{Ghosts}
use Rattle.turn_lock.specs.declared.lock.TurnSeat.{TurnSeat}
use Rattle.turn_lock.specs.Turns.{Grows, entries, stamp}
use Rattle.turn_lock.specs.Words.{number, seen, IsOther, IsSame}
use Rattle.turn_lock.proofs.Lists.{all_head, all_right, entries-stamp}
use Rattle.shared_store.specs.declared.noted.Noted.{Noted}
use Rattle.shared_store.specs.declared.noted.Noted.TheVariants.{Added, Taken, Given}
use Rattle.shared_store.specs.declared.shared.Shared.{Shared}
use Rattle.shared_store.specs.Answers.{Appends}
use Rattle.shared_store.specs.Notes.{entries_in}
use Rattle.shared_store.specs.Shares.{StandsFor}
use Rattle.shared_store.specs.Turns.{BeginsTurn, EndsTurn, InTurn, notes_of}
use Rattle.shared_store.specs.Values.{counts_after}
use Rattle.shared_store.proofs.Lists.{entries_in-append}
use Rattle.daemon_rounds.specs.Appending.{AreRising, end_behind}
use Rattle.daemon_rounds.proofs.Offsets.{offset_here, offset_other}
use Rattle.thread_laws.specs.Jobs.{AddsOwn, IsNoteOf, IsPublished, Stamped, is_noted_from}
use Rattle.thread_jobs.specs.declared.error.JobError.TheVariants as job
use Rattle.thread_jobs.specs.Publishing.{AddsFront, Exceeds, IsIntruded, counts_at, offset_after, unadded_by}
use Rattle.thread_jobs.proofs.Halves.{all_zip_append}
use Rattle.thread_jobs.proofs.Owning.{adds_none, adds_nothing, adds_turn}

-- ---- offsets
neither : (a b : Bool) → (a || b) ≡ false → (a ≡ false) × (b ≡ false)
neither true b h = absurd (cc)
neither false b h = (refl, h)

one_unmoved : (name : List ℕ) (c : Counts) (entry : Entry) → is_from name entry ≡ false → offset_at (counts_next c entry).taken name ≡ offset_at c.taken name
one_unmoved name c (Opened session rules) none = refl
one_unmoved name c (Configured document schedule moment) none = refl
one_unmoved name c (Ticked moment) none = refl
one_unmoved name c (Appended source taken events skipped moment) none = offset_other source taken name none c.taken
one_unmoved name c (TableSet source table rows taken) none = offset_other source taken name none c.taken
one_unmoved name c (Expired table floor moment) none = refl
one_unmoved name c (Committed batch) none = refl
one_unmoved name c (Acked upto) none = refl

-- entries of other sources leave the offset of this one
unmoved : (name : List ℕ) (c : Counts) (notes : List Noted) → list_any (is_noted_from name) notes ≡ false → offset_at (counts_after c (entries_in notes)).taken name ≡ offset_at c.taken name
unmoved name c [] none = refl
unmoved name c (Added entry ∷ rest) none =
    let both = neither (is_from name entry) (list_any (is_noted_from name) rest) none in
    unmoved name (counts_next c entry) rest both.1 ∙ one_unmoved name c entry both.0
unmoved name c (Taken ∷ rest) none = unmoved name c rest none
unmoved name c (Given cut ∷ rest) none = unmoved name c rest none

counts_after-append : (c : Counts) (xs ys : List Entry) → counts_after c (xs ++ ys) ≡ counts_after (counts_after c xs) ys
counts_after-append c [] ys = refl
counts_after-append c (x ∷ xs) ys = counts_after-append (counts_next c x) xs ys

-- the counts behind notes more
counts_more : (start : Kept) (xs ys : List Noted) → counts_at start (xs ++ ys) ≡ counts_after (counts_at start xs) (entries_in ys)
counts_more start xs ys =
    ap (counts_after start.counts) (entries_in-append xs ys) ∙ counts_after-append start.counts (entries_in xs) (entries_in ys)

offset_unmoved : (start : Kept) (name : List ℕ) (xs ys : List Noted) → list_any (is_noted_from name) ys ≡ false → offset_after start (xs ++ ys) name ≡ offset_after start xs name
offset_unmoved start name xs ys none =
    ap (λ (c : Counts). offset_at c.taken name) (counts_more start xs ys) ∙ unmoved name (counts_at start xs) ys none

offset_read : (name : List ℕ) (c : Counts) (moment : ℕ) (reading : Reading) → offset_at (counts_next c (entry_of name moment reading)).taken name ≡ taken_of reading
offset_read name c moment (Events taken events skipped) = offset_here name taken c.taken
offset_read name c moment (Table taken table rows) = offset_here name taken c.taken

offset_added : (start : Kept) (name : List ℕ) (xs : List Noted) (moment : ℕ) (reading : Reading) → offset_after start (xs ++ Added (entry_of name moment reading) ∷ []) name ≡ taken_of reading
offset_added start name xs moment reading =
    ap (λ (c : Counts). offset_at c.taken name) (counts_more start xs (Added (entry_of name moment reading) ∷ [])) ∙ offset_read name (counts_at start xs) moment reading

-- ---- readings of another seat
record IsFound (name : List ℕ) (xs : Stamped) : Type 0 where
  pub front : Stamped
  pub stamped : ℕ × Noted
  pub rest : Stamped
  pub are : xs ≡ front ++ stamped ∷ rest
  pub of : is_noted_from name stamped.1 ≡ true

find_from : (name : List ℕ) (xs : Stamped) → IsFound name xs ⊎ (list_any (is_noted_from name) (entries xs) ≡ false)
find_from name [] = inr refl
find_from name (x ∷ xs) = by_first (is_noted_from name x.1) refl (find_from name xs)
  where
    by_first : (b : Bool) → is_noted_from name x.1 ≡ b → IsFound name xs ⊎ (list_any (is_noted_from name) (entries xs) ≡ false) → IsFound name (x ∷ xs) ⊎ (list_any (is_noted_from name) (entries (x ∷ xs)) ≡ false)
    by_first true e more = inl (record { front = []; stamped = x; rest = xs; are = refl; of = e })
    by_first false e (inl f) = inl (record { front = x ∷ f.front; stamped = f.stamped; rest = f.rest; are = ap (λ (l : Stamped). x ∷ l) f.are; of = f.of })
    by_first false e (inr none) = inr (ap (λ (b : Bool). b || list_any (is_noted_from name) (entries xs)) e ∙ none)

intruded_more : (n : ℕ) (first old new more : Stamped) (name : List ℕ) → IsIntruded n first old name → new ≡ old ++ more → IsIntruded n first new name
intruded_more n first old new more name i grown = record {
  front = i.front;
  stamped = i.stamped;
  rest = i.rest ++ more;
  are =
      grown ∙ ap (λ (l : Stamped). l ++ more) i.are ∙ append_assoc first (i.front ++ i.stamped ∷ i.rest) more
      ∙ ap (λ (l : Stamped). first ++ l) (append_assoc i.front (i.stamped ∷ i.rest) more);
  other = i.other;
  of = i.of;
}

-- ---- some readings are added
pub record IsAdding (start : Kept) (n : ℕ) (first : Stamped) (name : List ℕ) (all rest : List Reading) (now : Stamped) : Type 0 where
  pub done : List Reading
  pub whole : all ≡ done ++ rest
  pub notes : List Noted
  pub adds : AddsOwn n first now notes
  pub each : AllZip (IsNoteOf name) done notes
  pub good : All IsReading rest
  pub rising : AreRising (end_behind (offset_after start (entries first) name) done) rest
  pub place : IsIntruded n first now name ⊎ (offset_after start (entries now) name ≡ end_behind (offset_after start (entries first) name) done)

pub adding_none : (start : Kept) (n : ℕ) (first : Stamped) (name : List ℕ) (all : List Reading) → All IsReading all → AreRising (offset_after start (entries first) name) all → IsAdding start n first name all all first
adding_none start n first name all good rising = record {
  done = [];
  whole = refl;
  notes = [];
  adds = adds_none n first;
  each = tt;
  good = good;
  rising = rising;
  place = inr refl;
}

end_push : (offset : ℕ) (done : List Reading) (reading : Reading) → end_behind offset (done ++ reading ∷ []) ≡ taken_of reading
end_push offset [] reading = refl
end_push offset (first ∷ done) reading = end_push (taken_of first) done reading

-- the seat has added those that are done, and nothing else
pub has_front : (start : Kept) (n : ℕ) (first : Stamped) (name : List ℕ) (all readings rest : List Reading) (now : Stamped) → all ≡ readings → IsAdding start n first name all rest now → AddsFront n first now name readings
has_front start n first name all readings rest now is so = record {
  done = so.done;
  rest = rest;
  are = sym is ∙ so.whole;
  published = record { notes = so.notes; adds = so.adds; each = so.each };
}

-- all of them are added
pub has_published : (start : Kept) (n : ℕ) (first : Stamped) (name : List ℕ) (all readings rest : List Reading) (now : Stamped) → all ≡ readings → rest ≡ [] → IsAdding start n first name all rest now → IsPublished n first now name readings
has_published start n first name all readings rest now is none so =
    let whole : so.done ≡ readings = sym (append-nil so.done) ∙ ap (λ (rs : List Reading). so.done ++ rs) (sym none) ∙ sym so.whole ∙ is in
    record {
      notes = so.notes;
      adds = so.adds;
      each = subst (λ (rs : List Reading). AllZip (IsNoteOf name) rs so.notes) whole so.each;
    }

module _ {g : Ghosts Shared Kept Noted} (start : Kept) (n : ℕ) (first : Stamped) (name : List ℕ) (all : List Reading) (reading : Reading) (rest : List Reading) (old new : TurnSeat Shared Kept Noted g) (same : number old ≡ n) (so : IsAdding start n first name all (reading ∷ rest) (seen old)) where
  not_own : (k : ℕ) → IsOther old k → k ≢ n
  not_own k h e = h.0 (e ∙ sym same)

  -- another seat's reading of the source among the notes that a turn finds
  found_here : (mid : TurnSeat Shared Kept Noted g) (grows : Grows (IsOther old) (seen old) (seen mid)) → IsFound name grows.0 → IsIntruded n first (seen mid) name
  found_here mid grows f = record {
    front = so.adds.more ++ f.front;
    stamped = f.stamped;
    rest = f.rest;
    are =
        grows.1 ∙ ap₂ (λ (x y : Stamped). x ++ y) so.adds.grown f.are ∙ append_assoc first so.adds.more (f.front ++ f.stamped ∷ f.rest)
        ∙ ap (λ (l : Stamped). first ++ l) (sym (append_assoc so.adds.more f.front (f.stamped ∷ f.rest)));
    other =
        not_own f.stamped.0 (all_head (λ (x : ℕ × Noted). IsOther old x.0) f.stamped f.rest
        (all_right (λ (x : ℕ × Noted). IsOther old x.0) f.front (f.stamped ∷ f.rest) (subst (All (λ (x : ℕ × Noted). IsOther old x.0)) f.are grows.2)));
    of = f.of;
  }

  -- the list that a turn finds either has a reading of another seat, or has the source up to where the seat's own list has it
  found : (mid : TurnSeat Shared Kept Noted g) → Grows (IsOther old) (seen old) (seen mid) → IsIntruded n first (seen mid) name ⊎ (offset_after start (notes_of mid) name ≡ end_behind (offset_after start (entries first) name) so.done)
  found mid grows = by_place so.place (find_from name grows.0)
    where
      by_place : IsIntruded n first (seen old) name ⊎ (offset_after start (notes_of old) name ≡ end_behind (offset_after start (entries first) name) so.done) → IsFound name grows.0 ⊎ (list_any (is_noted_from name) (entries grows.0) ≡ false)
          → IsIntruded n first (seen mid) name ⊎ (offset_after start (notes_of mid) name ≡ end_behind (offset_after start (entries first) name) so.done)
      by_place (inl i) more = inl (intruded_more n first (seen old) (seen mid) grows.0 name i grows.1)
      by_place (inr e) (inl f) = inl (found_here mid grows f)
      by_place (inr e) (inr none) =
          inr (ap (λ (notes : List Noted). offset_after start notes name) (ap (λ (l : Stamped). entries l) grows.1 ∙ map-append (λ (x : ℕ × Noted). x.1) (seen old) grows.0)
          ∙ offset_unmoved start name (notes_of old) (entries grows.0) none
          ∙ e)

  -- the notes that the seat has seen behind a turn
  notes_behind : (mid : TurnSeat Shared Kept Noted g) (now : Kept) (notes : List Noted) → EndsTurn start mid new now notes → notes_of new ≡ notes_of mid ++ notes
  notes_behind mid now notes ends =
      ap (λ (l : Stamped). entries l) ends.sees ∙ entries-stamp (seen mid) (number mid) notes

  -- one more is added, in a turn whose state had this moment
  added_at : (moment : ℕ) (mid : TurnSeat Shared Kept Noted g) (was now : Kept) (notes : List Noted) → BeginsTurn start old mid was → EndsTurn start mid new now notes → notes ≡ Added (entry_of name moment reading) ∷ [] → IsAdding start n first name all rest (seen new)
  added_at moment mid was now notes begins ends one = record {
    done = so.done ++ reading ∷ [];
    whole = so.whole ∙ sym (append_assoc so.done (reading ∷ []) rest);
    notes = so.notes ++ Added (entry_of name moment reading) ∷ [];
    adds = subst (λ (l : List Noted). AddsOwn n first (seen new) (so.notes ++ l)) one (adds_turn n (IsOther old) not_own first (seen old) (seen mid) (seen new) (number mid) so.notes notes so.adds begins.overhears ends.sees (begins.same.number ∙ same));
    each = all_zip_append (IsNoteOf name) so.done so.notes (reading ∷ []) (Added (entry_of name moment reading) ∷ []) so.each ((moment, refl), tt);
    good = All-tail IsReading reading rest so.good;
    rising = subst (λ (k : ℕ). AreRising k rest) (sym (end_push (offset_after start (entries first) name) so.done reading)) so.rising.1;
    place = inr (moved ∙ sym (end_push (offset_after start (entries first) name) so.done reading));
  }
    where
      moved : offset_after start (notes_of new) name ≡ taken_of reading
      moved =
          ap (λ (notes : List Noted). offset_after start notes name) (notes_behind mid now notes ends ∙ ap (λ (l : List Noted). notes_of mid ++ l) one)
          ∙ offset_added start name (notes_of mid) moment reading

  adding_one : (numbers : ℕ × ℕ) → InTurn start old new (Appends name reading (Ok numbers)) → IsAdding start n first name all rest (seen new)
  adding_one numbers turn = added_at turn.1.counts.moment turn.0 turn.1 turn.2 turn.3 turn.4 turn.5 turn.6.added.1

  -- one is refused: the seat has added what it had
  adds_still : (error : AppendError) → InTurn start old new (Appends name reading (Err error)) → AddsOwn n first (seen new) so.notes
  adds_still error turn = adds_nothing n (IsOther old) not_own first (seen old) (seen turn.0) (seen new) (number turn.0) so.notes turn.3 so.adds turn.4.overhears turn.5.sees (turn.4.same.number ∙ same) turn.6.err.1

  intruded : (kept : ℕ) → InTurn start old new (Appends name reading (Err (append.Backwards kept))) → IsIntruded n first (seen new) name
  intruded kept turn = by_found (found turn.0 turn.4.overhears)
    where
      late : (kept ≡ offset_at turn.1.counts.taken name) × (taken_of reading ≤ kept)
      late = (turn.6.backwards kept).0 refl

      by_found : IsIntruded n first (seen turn.0) name ⊎ (offset_after start (notes_of turn.0) name ≡ end_behind (offset_after start (entries first) name) so.done) → IsIntruded n first (seen new) name
      by_found (inl i) = intruded_more n first (seen turn.0) (seen new) (stamp (number turn.0) turn.3) name i turn.5.sees
      by_found (inr e) =
          let at = late.0 in
          let most = late.1 in
          let before = so.rising.0 in
          let known : offset_at turn.1.counts.taken name ≡ offset_after start (notes_of turn.0) name = ap (λ (c : Counts). offset_at c.taken name) turn.4.stands.comes.counts in
          absurd (omega (arith, at, most, before, known, e))

  exceeds : (readings : List Reading) → all ≡ readings → InTurn start old new (Appends name reading (Err append.NumbersSpent)) → Exceeds start n first (seen new) name readings
  exceeds readings is turn = record {
    done = so.done;
    next = reading;
    rest = rest;
    are = sym is ∙ so.whole;
    published = record { notes = so.notes; adds = adds_still append.NumbersSpent turn; each = so.each };
    state = turn.1;
    stands = subst (λ (notes : List Noted). StandsFor start notes turn.1) (sym still) turn.4.stands;
    beyond = (turn.6.spent.0 refl).1;
  }
    where
      still : notes_of new ≡ notes_of turn.0
      still =
          notes_behind turn.0 turn.2 turn.3 turn.5 ∙ ap (λ (l : List Noted). notes_of turn.0 ++ l) turn.6.err.1 ∙ append-nil (notes_of turn.0)

  -- by what the call answered
  by_answer : (one other : Result (ℕ × ℕ) AppendError) → one ≡ other → InTurn start old new (Appends name reading one) → InTurn start old new (Appends name reading other)
  by_answer one other is turn = subst (λ (answer : Result (ℕ × ℕ) AppendError). InTurn start old new (Appends name reading answer)) is turn

  pub adding_ok : (answer : Result (ℕ × ℕ) AppendError) (numbers : ℕ × ℕ) → answer ≡ Ok numbers → InTurn start old new (Appends name reading answer) → IsAdding start n first name all rest (seen new)
  adding_ok answer numbers is turn = adding_one numbers (by_answer answer (Ok numbers) is turn)

  pub front_err : (readings : List Reading) (answer : Result (ℕ × ℕ) AppendError) (error : AppendError) → all ≡ readings → answer ≡ Err error → InTurn start old new (Appends name reading answer) → AddsFront n first (seen new) name readings
  front_err readings answer error same_readings is turn = record {
    done = so.done;
    rest = reading ∷ rest;
    are = sym same_readings ∙ so.whole;
    published = record { notes = so.notes; adds = adds_still error (by_answer answer (Err error) is turn); each = so.each };
  }

  pub intruded_err : (answer : Result (ℕ × ℕ) AppendError) (error : AppendError) → answer ≡ Err error → unadded_by error ≡ job.Intruded → InTurn start old new (Appends name reading answer) → IsIntruded n first (seen new) name
  intruded_err answer (append.Backwards kept) is why turn = intruded kept (by_answer answer (Err (append.Backwards kept)) is turn)
  intruded_err answer append.NumbersSpent is why turn = absurd (cc)
  intruded_err answer append.NoMemory is why turn = absurd (cc)

  pub exceeds_err : (readings : List Reading) (answer : Result (ℕ × ℕ) AppendError) (error : AppendError) → all ≡ readings → answer ≡ Err error → unadded_by error ≡ job.NumbersSpent → InTurn start old new (Appends name reading answer) → Exceeds start n first (seen new) name readings
  exceeds_err readings answer (append.Backwards kept) same_readings is why turn = absurd (cc)
  exceeds_err readings answer append.NumbersSpent same_readings is why turn = exceeds readings same_readings (by_answer answer (Err append.NumbersSpent) is turn)
  exceeds_err readings answer append.NoMemory same_readings is why turn = absurd (cc)
