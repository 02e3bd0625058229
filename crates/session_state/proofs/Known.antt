-- What a state knows of a cut is kept by each entry of a session.
use Rattle.std.proofs.Common.{◌≡◌, ℕ, ◌+◌, ◌≤◌, Bool, true, false, cond, List, [], ◌∷◌, ◌++◌, Option, Some, None, refl, sym, ap, ◌∙◌, subst, arith}
use Rattle.std.specs.Prelude.{find, nat_le, slice_get}
use Rattle.std.specs.Option.{option_map_or}
use Rattle.std.proofs.lemmas.Bool.Decides.{nat_tests}
use Rattle.std.proofs.lemmas.List.{append-nil}
use Rattle.pack_rules.specs.declared.schedule.QueryKey.{QueryKey}
use Rattle.pack_rules.specs.declared.schedule.Schedule.{Schedule}
use Rattle.pack_rules.specs.Keys.{same_key}
use Rattle.entry_model.specs.declared.entry.Batch.{Batch}
use Rattle.entry_model.specs.declared.entry.Entry.{Entry}
use Rattle.entry_model.specs.declared.entry.Entry.TheVariants.{Opened, Configured, Ticked, Appended, TableSet, Expired, Committed, Acked}
use Rattle.entry_model.specs.declared.restored.Run.{Run}
use Rattle.entry_model.specs.Runs.{with_batch}
use Rattle.entry_model.proofs.Lasts.{same_key_is}
use Rattle.query_cursors.specs.Due.{run_of, is_due, is_due_by, number_of}
use Rattle.session_state.specs.Kept.{Counts, Kept}
use Rattle.session_state.specs.Cut.{CutValue}
use Rattle.session_state.specs.CutOf.{IsCurrent, IsCutOf}
use Rattle.session_state.specs.StateOf.{Moves}
use Rattle.session_state.proofs.Rooms.{noted_run, other_run}

-- two states that agree on what is known of cuts
pub record IsAlike (old new : Kept) : Type 0 where
  pub position : old.counts.position ≤ new.counts.position
  pub batches : new.counts.batches ≡ old.counts.batches
  pub runs : new.counts.runs ≡ old.counts.runs
  pub moment : new.counts.moment ≡ old.counts.moment
  pub schedule : new.schedule ≡ old.schedule
  pub ticked : new.ticked ≡ old.ticked
  pub marks : new.marks ≡ old.marks

pub known_alike : (old new : Kept) → IsAlike old new → (cut : CutValue) → IsCutOf old cut → IsCutOf new cut
known_alike old new same cut of =
    let past = of.past in
    let known = of.known in
    let position = same.position in
    let batches = same.batches in
    record {
      past = omega (arith, past, position);
      known = omega (arith, known, batches);
      current = λ unmarked. by_current (of.current (sym (ap (find (λ (mark : ℕ). nat_le cut.position mark)) same.marks) ∙ unmarked));
    }
  where
    by_current : IsCurrent old cut → IsCurrent new cut
    by_current c = record {
      ticked = same.ticked ∙ c.ticked;
      now = same.moment ∙ c.now;
      scheduled = c.scheduled;
      stands = ap (λ (s : Schedule). slice_get s.queries cut.place) same.schedule ∙ c.stands;
      key = c.key;
      due = λ number. (λ i. is_due_by (same.runs i) (same.moment i) c.scheduled) ∙ c.due (sym (ap (λ (runs : List Run). number_of runs cut.key) same.runs) ∙ number);
    }

-- a mark behind the cut is found
found_last : (position place : ℕ) (marks : List ℕ) → position ≤ place → find (λ (mark : ℕ). nat_le position mark) (marks ++ place ∷ []) ≡ None → false ≡ true
found_last position place [] low h =
    let passes : nat_le position place ≡ true = grind (arith, nat_tests, low) in
    absurd (let k = sym (ap (λ (b : Bool). cond b (Some place) None) passes) ∙ h in cc)
found_last position place (mark ∷ marks) low h = by_first (nat_le position mark) refl (found_last position place marks low)
  where
    by_first : (b : Bool) → nat_le position mark ≡ b → (find (λ (m : ℕ). nat_le position m) (marks ++ place ∷ []) ≡ None → false ≡ true) → false ≡ true
    by_first true e rest =
        absurd (let k = sym (ap (λ (b : Bool). cond b (Some mark) (find (λ (m : ℕ). nat_le position m) (marks ++ place ∷ []))) e) ∙ h in cc)
    by_first false e rest =
        rest (sym (ap (λ (b : Bool). cond b (Some mark) (find (λ (m : ℕ). nat_le position m) (marks ++ place ∷ []))) e) ∙ h)

-- an entry after which each cut is out of date
known_marked : (old new : Kept) → new.counts.position ≡ old.counts.position + 1 → new.counts.batches ≡ old.counts.batches → new.marks ≡ old.marks ++ old.counts.position ∷ [] → (cut : CutValue) → IsCutOf old cut → IsCutOf new cut
known_marked old new position batches marks cut of =
    let past = of.past in
    let known = of.known in
    record {
      past = omega (arith, past, position);
      known = omega (arith, known, batches);
      current = λ unmarked. absurd (let k = found_last cut.position old.counts.position old.marks past (sym (ap (find (λ (mark : ℕ). nat_le cut.position mark)) marks) ∙ unmarked) in cc);
    }

-- a batch with the next number: of a query of the cut, the number has changed
pub known_still : (old new : Kept) (batch : Batch) → batch.number ≡ old.counts.batches + 1 → Moves old (Committed batch) new → (cut : CutValue) → IsCutOf old cut → IsCutOf new cut
known_still old new batch next m cut of =
    let past = of.past in
    let known = of.known in
    let position = ap (λ (c : Counts). c.position) m.counts in
    let batches = ap (λ (c : Counts). c.batches) m.counts in
    record {
      past = omega (arith, past, position);
      known = omega (arith, known, batches);
      current = λ unmarked. by_current (of.current (sym (ap (find (λ (mark : ℕ). nat_le cut.position mark)) (m.marks ∙ append-nil old.marks)) ∙ unmarked));
    }
  where
    runs_are : new.counts.runs ≡ with_batch old.counts.runs batch.query batch.number batch.hi batch.moment
    runs_are = ap (λ (c : Counts). c.runs) m.counts

    moment_is : new.counts.moment ≡ old.counts.moment
    moment_is = ap (λ (c : Counts). c.moment) m.counts

    low : cut.last ≤ old.counts.batches
    low = of.known

    by_key : (c : IsCurrent old cut) (b : Bool) → same_key batch.query cut.key ≡ b → number_of (with_batch old.counts.runs batch.query batch.number batch.hi batch.moment) cut.key ≡ cut.last → is_due_by (with_batch old.counts.runs batch.query batch.number batch.hi batch.moment) old.counts.moment c.scheduled ≡ true
    by_key c true e number =
        let noted = noted_run batch.query batch.number batch.hi batch.moment old.counts.runs in
        let same = same_key_is batch.query cut.key e in
        let is : number_of (with_batch old.counts.runs batch.query batch.number batch.hi batch.moment) cut.key ≡ noted.run.number = ap (λ (k : QueryKey). number_of (with_batch old.counts.runs batch.query batch.number batch.hi batch.moment) k) (sym same) ∙ ap (λ (o : Option Run). option_map_or (λ (run : Run). run.number) o 0) noted.is in
        let at = noted.number_is in
        absurd (omega (arith, is, at, number, next, low))
    by_key c false e number =
        let kept = other_run batch.query batch.number batch.hi batch.moment cut.key e old.counts.runs in
        let due = c.due (sym (ap (λ (o : Option Run). option_map_or (λ (run : Run). run.number) o 0) kept) ∙ number) in
        let moved : run_of (with_batch old.counts.runs batch.query batch.number batch.hi batch.moment) c.scheduled.key ≡ run_of old.counts.runs c.scheduled.key = subst (λ (k : QueryKey). run_of (with_batch old.counts.runs batch.query batch.number batch.hi batch.moment) k ≡ run_of old.counts.runs k) (sym c.key) kept in
        ap (λ (o : Option Run). is_due c.scheduled o old.counts.moment) moved ∙ due

    by_current : IsCurrent old cut → IsCurrent new cut
    by_current c = record {
      ticked = m.ticked ∙ c.ticked;
      now = moment_is ∙ c.now;
      scheduled = c.scheduled;
      stands = ap (λ (s : Schedule). slice_get s.queries cut.place) m.schedule ∙ c.stands;
      key = c.key;
      due = λ number. (λ i. is_due_by (runs_are i) (moment_is i) c.scheduled) ∙ by_key c (same_key batch.query cut.key) refl (sym (ap (λ (runs : List Run). number_of runs cut.key) runs_are) ∙ number);
    }

quiet : (old new : Kept) → new.counts.position ≡ old.counts.position + 1 → new.counts.batches ≡ old.counts.batches → new.counts.runs ≡ old.counts.runs → new.counts.moment ≡ old.counts.moment → new.schedule ≡ old.schedule → new.ticked ≡ old.ticked → new.marks ≡ old.marks → IsAlike old new
quiet old new position batches runs moment schedule ticked marks =
    record { position = omega (arith, position); batches = batches; runs = runs; moment = moment; schedule = schedule; ticked = ticked; marks = marks }

-- the entries that a session adds beside its opening and its batches
abbrev pub is_told : Entry → Bool
is_told (Opened session rules) = false
is_told (Committed batch) = false
is_told _ = true

pub known_next : (old new : Kept) (e : Entry) → is_told e ≡ true → Moves old e new → (cut : CutValue) → IsCutOf old cut → IsCutOf new cut
known_next old new (Opened session rules) told m = absurd (cc)
known_next old new (Committed batch) told m = absurd (cc)
known_next old new (Configured document schedule moment) told m =
    known_marked old new (ap (λ (c : Counts). c.position) m.counts) (ap (λ (c : Counts). c.batches) m.counts) m.marks
known_next old new (Ticked moment) told m =
    known_marked old new (ap (λ (c : Counts). c.position) m.counts) (ap (λ (c : Counts). c.batches) m.counts) m.marks
known_next old new (Appended source taken events skipped moment) told m =
    known_alike old new (quiet old new (ap (λ (c : Counts). c.position) m.counts) (ap (λ (c : Counts). c.batches) m.counts) (ap (λ (c : Counts). c.runs) m.counts) (ap (λ (c : Counts). c.moment) m.counts) m.schedule m.ticked (m.marks ∙ append-nil old.marks))
known_next old new (TableSet source table rows taken) told m =
    known_alike old new (quiet old new (ap (λ (c : Counts). c.position) m.counts) (ap (λ (c : Counts). c.batches) m.counts) (ap (λ (c : Counts). c.runs) m.counts) (ap (λ (c : Counts). c.moment) m.counts) m.schedule m.ticked (m.marks ∙ append-nil old.marks))
known_next old new (Expired table floor moment) told m =
    known_alike old new (quiet old new (ap (λ (c : Counts). c.position) m.counts) (ap (λ (c : Counts). c.batches) m.counts) (ap (λ (c : Counts). c.runs) m.counts) (ap (λ (c : Counts). c.moment) m.counts) m.schedule m.ticked (m.marks ∙ append-nil old.marks))
known_next old new (Acked upto) told m =
    known_alike old new (quiet old new (ap (λ (c : Counts). c.position) m.counts) (ap (λ (c : Counts). c.batches) m.counts) (ap (λ (c : Counts). c.runs) m.counts) (ap (λ (c : Counts). c.moment) m.counts) m.schedule m.ticked (m.marks ∙ append-nil old.marks))
