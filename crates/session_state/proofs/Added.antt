-- A state after one more entry.
use Rattle.std.proofs.Common.{◌≡◌, ℕ, suc, inr, None, ◌+◌, List, [], ◌∷◌, ◌++◌, length, true, false, refl, sym, ap, ◌∙◌, subst, arith, append_assoc, length-append}
use Rattle.std.specs.Prelude.{unwrap_or}
use Rattle.std.proofs.lemmas.List.{append-nil}
use Rattle.entry_model.specs.declared.entry.Entry.{Entry}
use Rattle.entry_model.specs.declared.entry.Entry.TheVariants.{Opened, Configured, Ticked, Appended, TableSet, Expired, Committed, Acked}
use Rattle.entry_model.specs.declared.restored.Restored.{Restored}
use Rattle.entry_model.specs.Values.{schedule_in, no_schedule, tick_in, rules_in}
use Rattle.entry_model.specs.Legal.{LegalNext, Legal}
use Rattle.entry_model.specs.Summary.{summary}
use Rattle.entry_model.specs.Next.{restored_next}
use Rattle.entry_model.proofs.Lasts.{last_of-append}
use Rattle.entry_model.proofs.Follows.{Legal-push}
use Rattle.entry_model.proofs.Nexts.{next_is}
use Rattle.event_store.specs.Contents.{Holds, IsImage}
use Rattle.event_store.proofs.Bridge.{keeps_up}
use Rattle.session_state.specs.Kept.{Counts, Kept, counts_of, counts_next}
use Rattle.session_state.specs.Marks.{mark_in, marks_from}
use Rattle.session_state.proofs.Known.{is_told, known_next}
use Rattle.session_state.specs.StateOf.{HasValues, IsStateOf, Moves, Adds, Begins}

counts_step : (r : Restored) (e : Entry) → counts_of (restored_next r e) ≡ counts_next (counts_of r) e
counts_step r (Opened session rules) = refl
counts_step r (Configured document schedule moment) = refl
counts_step r (Ticked moment) = refl
counts_step r (Appended source taken events skipped moment) = refl
counts_step r (TableSet source table rows taken) = refl
counts_step r (Expired table floor moment) = refl
counts_step r (Committed batch) = refl
counts_step r (Acked upto) = refl

position_step : (c : Counts) (e : Entry) → (counts_next c e).position ≡ c.position + 1
position_step c (Opened session rules) = refl
position_step c (Configured document schedule moment) = refl
position_step c (Ticked moment) = refl
position_step c (Appended source taken events skipped moment) = refl
position_step c (TableSet source table rows taken) = refl
position_step c (Expired table floor moment) = refl
position_step c (Committed batch) = refl
position_step c (Acked upto) = refl

pub marks-push : (place : ℕ) (xs : List Entry) (e : Entry) → marks_from place (xs ++ e ∷ []) ≡ marks_from place xs ++ mark_in (place + length xs) e
marks-push place [] e = append-nil (mark_in place e) ∙ ap (λ (p : ℕ). mark_in p e) (omega arith)
marks-push place (x ∷ xs) e =
    ap (λ (ms : List ℕ). mark_in place x ++ ms) (marks-push (suc place) xs e ∙ ap (λ (p : ℕ). marks_from (suc place) xs ++ mark_in p e) (omega arith)) ∙ sym (append_assoc (mark_in place x) (marks_from (suc place) xs) (mark_in (place + length (x ∷ xs)) e))

-- what a session adds behind its opening has no rules
told_rules : (e : Entry) → is_told e ≡ true → rules_in e ≡ None
told_rules (Opened session rules) told = absurd (cc)
told_rules (Committed batch) told = refl
told_rules (Configured document schedule moment) told = refl
told_rules (Ticked moment) told = refl
told_rules (Appended source taken events skipped moment) told = refl
told_rules (TableSet source table rows taken) told = refl
told_rules (Expired table floor moment) told = refl
told_rules (Acked upto) told = refl

-- an entry that may follow the list, and the state after it
pub has_next : (K : List Entry) (s new : Kept) (e : Entry) → rules_in e ≡ None → IsImage s.image → HasValues K s → LegalNext K e → Moves s e new → HasValues (K ++ e ∷ []) new
has_next K s new e no_rules image h may m = record {
  legal = Legal-push K e h.legal may;
  counts = ap counts_of (next_is K h.legal e may) ∙ counts_step (summary K) e ∙ ap (λ (c : Counts). counts_next c e) h.counts ∙ sym m.counts;
  image = keeps_up K e s.image new.image h.legal may image h.image m.image;
  schedule = last_of-append schedule_in no_schedule K (e ∷ []) ∙ ap (unwrap_or (schedule_in e)) h.schedule ∙ sym m.schedule;
  ticked = last_of-append tick_in false K (e ∷ []) ∙ ap (unwrap_or (tick_in e)) h.ticked ∙ sym m.ticked;
  rules = last_of-append rules_in 1 K (e ∷ []) ∙ (λ i. unwrap_or (no_rules i) (h.rules i));
}

-- the new state stands for one entry more than each list after which the entry may come
pub stands_next : (s new : Kept) (e : Entry) → rules_in e ≡ None → IsImage s.image → Moves s e new → (base : Restored) (added : List Entry) → IsStateOf base added s → ((before : List Entry) → Legal before → summary before ≡ base → LegalNext (before ++ added) e) → IsStateOf base (added ++ e ∷ []) new
stands_next s new e no_rules image m base added stands may = record {
  values = λ before legal same.
      let h = stands.values before legal same in
      subst (λ (es : List Entry). HasValues es new) (append_assoc before added (e ∷ [])) (has_next (before ++ added) s new e no_rules image h (may before legal same) m);
  marks = m.marks ∙ ap (λ (ms : List ℕ). ms ++ mark_in s.counts.position e) stands.marks ∙ ap (λ (p : ℕ). marks_from base.position added ++ mark_in p e) stands.position ∙ sym (marks-push base.position added e);
  position = (let p = ap (λ (c : Counts). c.position) m.counts ∙ position_step s.counts e in let q = stands.position in let l = length-append added (e ∷ []) in omega (arith, p, q, l));
}

-- where a state's values allow an entry, its list does
pub adds : (s new : Kept) (e : Entry) → is_told e ≡ true → IsImage s.image → ((K : List Entry) → HasValues K s → LegalNext K e) → Moves s e new → Adds s e new
adds s new e told image may m = record {
  moves = m;
  stands = λ base added stands. stands_next s new e (told_rules e told) image m base added stands (λ before legal same. may (before ++ added) (stands.values before legal same));
  cuts = known_next s new e told m;
}

pub begins : (r : Restored) (s : Kept) → s.counts ≡ counts_next (counts_of r) (Opened (r.sessions + 1) 2) → Holds r s.image → s.schedule ≡ no_schedule → s.ticked ≡ false → s.marks ≡ [] → s.claims ≡ [] → s.tail ≡ Opened (r.sessions + 1) 2 ∷ [] → Begins r s
begins r s counts image schedule ticked marks claims tail = record {
  stands = record {
    values = λ before legal same.
        let e = Opened (r.sessions + 1) 2 in
        let may : LegalNext before e = (sym (ap (λ (s : Restored). s.sessions + 1) same), inr refl) in
        let next = next_is before legal e may ∙ ap (λ (s : Restored). restored_next s e) same in
        let held : Holds (restored_next r e) s.image = record { last = image.last; floors = image.floors; live = image.live; rows = image.rows } in
        record {
          legal = Legal-push before e legal may;
          counts = ap counts_of next ∙ counts_step r e ∙ sym counts;
          image = subst (λ (r : Restored). Holds r s.image) (sym next) held;
          schedule = last_of-append schedule_in no_schedule before (e ∷ []) ∙ sym schedule;
          ticked = last_of-append tick_in false before (e ∷ []) ∙ sym ticked;
          rules = last_of-append rules_in 1 before (e ∷ []);
        };
    marks = marks;
    position = ap (λ (c : Counts). c.position) counts;
  };
  counts = counts;
  image = image;
  schedule = schedule;
  ticked = ticked;
  marks = marks;
  claims = claims;
  tail = tail;
}
