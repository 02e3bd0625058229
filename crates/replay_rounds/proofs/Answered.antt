-- What a tick answers and lets expire, from the states of a session to the lists that they stand for.
use Rattle.std.proofs.Common.{◌≡◌, ℕ, Bool, true, false, cond, List, [], ◌∷◌, ◌++◌, length, map, Some, None, refl, sym, ap, ◌∙◌, subst, append_assoc, arith, ◌+◌}
use Rattle.std.specs.Prelude.{All, filter, not, position, if◌then◌else◌, nat_lt, option_map}
use Rattle.std.specs.List.{cons_option, position_or_len}
use Rattle.std.proofs.lemmas.Bool.Decides.{nat_tests}
use Rattle.std.proofs.lemmas.List.{append-nil}
use Rattle.pack_rules.specs.declared.schedule.QueryKey.{QueryKey}
use Rattle.pack_rules.specs.declared.schedule.Schedule.{Schedule}
use Rattle.pack_rules.specs.declared.schedule.Scheduled.{Scheduled}
use Rattle.entry_model.specs.declared.entry.Batch.{Batch}
use Rattle.entry_model.specs.declared.entry.Entry.{Entry}
use Rattle.entry_model.specs.declared.entry.Entry.TheVariants.{Committed, Expired}
use Rattle.entry_model.specs.declared.restored.Restored.{Restored}
use Rattle.entry_model.specs.Legal.{Legal}
use Rattle.entry_model.specs.Runs.{with_batch}
use Rattle.entry_model.specs.Summary.{summary}
use Rattle.entry_model.specs.Views.{due_queries, is_evented_table}
use Rattle.query_cursors.specs.Due as cursors
use Rattle.session_state.specs.Kept.{Counts, IsRun, IsState, Kept}
use Rattle.session_state.specs.Expiries as state
use Rattle.session_state.specs.Expiries.{expiries}
use Rattle.session_state.specs.StateOf.{HasValues, IsStateOf}
use Rattle.session_state.specs.Ticks.{first_due}
use Rattle.session_state.proofs.Dues.{due_queries_are, none_due, owed_is}
use Rattle.session_model.specs.Ticking as model
use Rattle.session_model.specs.Ticking.{Answers, expiries_of}
use Rattle.daemon_rounds.specs.Adding.{AreFree, AddsEntries}
use Rattle.daemon_rounds.specs.Answering.{AnswersEach, AnswersFirst, AreOwn, committed_all}
use Rattle.replay_rounds.specs.Spent.{AnswersFront}
use Rattle.replay_rounds.proofs.Dues.{one_less}

expired_is : (entries : List Entry) (s : Kept) → HasValues entries s → (table : ℕ) → is_evented_table table ≡ true → state.expiry_of s table ≡ model.expiry_of entries table
expired_is entries s h table is =
    λ i. option_map (λ (floor : ℕ). Expired (record { 0 = table }) floor (sym h.counts i).moment) (sym (owed_is entries s h table is) i)

-- what a state lets expire is what its list does
pub expired_are : (entries : List Entry) (s : Kept) → HasValues entries s → expiries s ≡ expiries_of entries
expired_are entries s h =
    λ i. cons_option (expired_is entries s h 0 refl i) (cons_option (expired_is entries s h 1 refl i) (cons_option (expired_is entries s h 2 refl i) []))

-- where a query is due, a tick has begun
has_begun : (s : Kept) (place : ℕ) → first_due s ≡ Some place → s.ticked ≡ true
has_begun s place due = by_tick s.ticked refl
  where
    by_tick : (b : Bool) → s.ticked ≡ b → b ≡ true
    by_tick true e = refl
    by_tick false e =
        absurd (let k = sym (ap (λ (b : Bool). cond b (cursors.first_due s.counts.runs s.schedule.queries s.counts.moment) None) e) ∙ due in cc)

found_at : {X : Type 0} (p : X → Bool) (xs : List X) (place : ℕ) → position p xs ≡ Some place → position_or_len p xs ≡ place
found_at p xs place found = by_test (nat_lt (position_or_len p xs) (length xs)) refl
  where
    by_test : (b : Bool) → nat_lt (position_or_len p xs) (length xs) ≡ b → position_or_len p xs ≡ place
    by_test true e =
        let k = sym (ap (λ (b : Bool). cond b (Some (position_or_len p xs)) None) e) ∙ found in cc
    by_test false e =
        absurd (let k = sym (ap (λ (b : Bool). cond b (Some (position_or_len p xs)) None) e) ∙ found in cc)

abbrev keys : List Scheduled → List QueryKey
keys queries = map (λ (scheduled : Scheduled). scheduled.key) queries

abbrev due_of : Kept → List QueryKey
due_of s = keys (filter (cursors.is_due_by s.counts.runs s.counts.moment) s.schedule.queries)

known_runs : (s t : Kept) (batches : List Batch) → AnswersEach s batches t → IsState t → All (IsRun s.counts.batches) s.counts.runs
known_runs s t [] each is = subst (λ (counts : Counts). All (IsRun counts.batches) counts.runs) each.counts is.runs
known_runs s t (batch ∷ batches) each is = each.0.is.runs

-- Behind the batch of the first due query the others that were due are left.
module _ (entries : List Entry) (s t : Kept) (batch : Batch) (first : AnswersFirst s batch) (free : AreFree s.claims) (more : AddsEntries s (Committed batch ∷ []) t) where
  abbrev before : List Scheduled
  before = filter (cursors.is_due_by s.counts.runs s.counts.moment) s.schedule.queries

  abbrev behind : List Scheduled
  behind =
      filter (cursors.is_due_by (with_batch s.counts.runs batch.query batch.number batch.hi s.counts.moment) s.counts.moment) s.schedule.queries

  ticked : s.ticked ≡ true
  ticked = let due = first.first free in has_begun s due.0 due.1.1

  left : keys before ≡ batch.query ∷ keys behind
  left =
      let due = first.first free in
      let place = due.0 in
      let scheduled = due.1.0 in
      let found : position (cursors.is_due_by s.counts.runs s.counts.moment) s.schedule.queries ≡ Some place = sym (ap (λ (b : Bool). cond b (cursors.first_due s.counts.runs s.schedule.queries s.counts.moment) None) ticked) ∙ due.1.1 in
      ap keys (one_less batch.query batch.number batch.hi s.counts.moment s.counts.runs s.schedule.queries place scheduled first.is.schedule.order first.is.schedule.runnable (found_at (cursors.is_due_by s.counts.runs s.counts.moment) s.schedule.queries place found) due.1.2 due.1.3)
      ∙ ap (λ (key : QueryKey). key ∷ keys behind) (sym due.1.3)

  due_now : (if t.ticked then due_of t else []) ≡ keys behind
  due_now = λ i. if begun i then keys (filter (cursors.is_due_by (runs_are i) (moment_is i)) (queries_are i)) else []
    where
      begun : t.ticked ≡ true
      begun = more.ticked ∙ ticked

      runs_are : t.counts.runs ≡ with_batch s.counts.runs batch.query batch.number batch.hi s.counts.moment
      runs_are =
          ap (λ (counts : Counts). counts.runs) more.counts ∙ ap (with_batch s.counts.runs batch.query batch.number batch.hi) first.now

      moment_is : t.counts.moment ≡ s.counts.moment
      moment_is = ap (λ (counts : Counts). counts.moment) more.counts

      queries_are : t.schedule.queries ≡ s.schedule.queries
      queries_are = ap (λ (schedule : Schedule). schedule.queries) more.schedule

  due_then : HasValues entries s → HasValues (entries ++ Committed batch ∷ []) t → All (IsRun t.counts.batches) t.counts.runs → due_queries entries ≡ batch.query ∷ due_queries (entries ++ Committed batch ∷ [])
  due_then has now runs =
      due_queries_are entries s has first.is.runs
      ∙ ap (λ (b : Bool). if b then due_of s else []) ticked
      ∙ left
      ∙ ap (λ (queries : List QueryKey). batch.query ∷ queries) (sym due_now ∙ sym (due_queries_are (entries ++ Committed batch ∷ []) t now runs))

-- The batches of a tick answer the due queries of the list, in their order, each made of all that stands before it.
module _ (base : Restored) (start : List Entry) (legal : Legal start) (same : summary start ≡ base) where
  pub answered_are : (added : List Entry) (s t : Kept) (batches : List Batch) → IsStateOf base added s → AreFree s.claims → AnswersEach s batches t → AreOwn s.counts.position batches → IsState t → first_due t ≡ None → Answers (start ++ added) (due_queries (start ++ added)) (committed_all batches)
  answered_are added s t [] stands free each own is none =
      let now = (each.stands base added stands).values start legal same in
      let over = subst (λ (entries : List Entry). HasValues (start ++ entries) t) (append-nil added) now in
      subst (λ (queries : List QueryKey). Answers (start ++ added) queries []) (sym (none_due (start ++ added) t over is.runs none)) refl
  answered_are added s t (batch ∷ batches) stands free each own is none =
      let next = each.1.0 in
      let more = each.1.1 in
      let has = stands.values start legal same in
      let on = more.stands base added stands in
      let joined : start ++ (added ++ Committed batch ∷ []) ≡ (start ++ added) ++ Committed batch ∷ [] = sym (append_assoc start added (Committed batch ∷ [])) in
      let now = subst (λ (entries : List Entry). HasValues entries next) joined (on.values start legal same) in
      let due = due_then (start ++ added) s next batch each.0 free more has now (known_runs next t batches each.1.2 is) in
      let cut : batch.cut ≡ length (start ++ added) = own.0 ∙ sym (ap (λ (counts : Counts). counts.position) has.counts) in
      let own_now = subst (λ (place : ℕ). AreOwn place batches) (sym (ap (λ (counts : Counts). counts.position) more.counts)) own.2 in
      let rest = answered_are (added ++ Committed batch ∷ []) next t batches on (more.free free) each.1.2 own_now is none in
      let others = subst (λ (entries : List Entry). Answers entries (due_queries entries) (committed_all batches)) joined rest in
      subst (λ (queries : List QueryKey). Answers (start ++ added) queries (committed_all (batch ∷ batches))) (sym due) (batch, committed_all batches, refl, cut, others, refl)

-- where a test passes somewhere, its filter keeps something
some_pass : {X : Type 0} (p : X → Bool) (xs : List X) → nat_lt (position_or_len p xs) (length xs) ≡ true → (x : X) × (rest : List X) × (filter p xs ≡ x ∷ rest)
some_pass p [] h = absurd (cc)
some_pass {X} p (x ∷ xs) h = by_first (p x) refl (some_pass p xs)
  where
    by_first : (b : Bool) → p x ≡ b → (nat_lt (position_or_len p xs) (length xs) ≡ true → (y : X) × (rest : List X) × (filter p xs ≡ y ∷ rest)) → (y : X) × (rest : List X) × (filter p (x ∷ xs) ≡ y ∷ rest)
    by_first true e rest = (x, filter p xs, ap (λ (b : Bool). cond b (x ∷ filter p xs) (filter p xs)) e)
    by_first false e rest =
        let k = sym (ap (λ (b : Bool). nat_lt (cond (not b) (1 + position_or_len p xs) 0) (length (x ∷ xs))) e) ∙ h in
        let (y, more, is) = rest (grind (arith, nat_tests, k)) in
        (y, more, ap (λ (b : Bool). cond b (x ∷ filter p xs) (filter p xs)) e ∙ is)

passes_at : {X : Type 0} (p : X → Bool) (xs : List X) (place : ℕ) → position p xs ≡ Some place → nat_lt (position_or_len p xs) (length xs) ≡ true
passes_at p xs place found = by_test (nat_lt (position_or_len p xs) (length xs)) refl
  where
    by_test : (b : Bool) → nat_lt (position_or_len p xs) (length xs) ≡ b → b ≡ true
    by_test true e = refl
    by_test false e =
        absurd (let k = sym (ap (λ (b : Bool). cond b (Some (position_or_len p xs)) None) e) ∙ found in cc)

-- where a query is due by the state, one is by the list
one_due : (entries : List Entry) (s : Kept) (place : ℕ) → HasValues entries s → IsState s → first_due s ≡ Some place → (next : QueryKey) × (later : List QueryKey) × (due_queries entries ≡ next ∷ later)
one_due entries s place has is due =
    let begun = has_begun s place due in
    let found : position (cursors.is_due_by s.counts.runs s.counts.moment) s.schedule.queries ≡ Some place = sym (ap (λ (b : Bool). cond b (cursors.first_due s.counts.runs s.schedule.queries s.counts.moment) None) begun) ∙ due in
    let (next, later, are) = some_pass (cursors.is_due_by s.counts.runs s.counts.moment) s.schedule.queries (passes_at (cursors.is_due_by s.counts.runs s.counts.moment) s.schedule.queries place found) in
    (next.key, keys later, due_queries_are entries s has is.runs ∙ ap (λ (b : Bool). if b then due_of s else []) begun ∙ ap keys are)

-- Some batches of a tick, behind which a query is still due, answer the first of the due queries of the list.
module _ (base : Restored) (start : List Entry) (legal : Legal start) (same : summary start ≡ base) where
  pub answered_front : (added : List Entry) (s t : Kept) (batches : List Batch) (place : ℕ) → IsStateOf base added s → AreFree s.claims → AnswersEach s batches t → AreOwn s.counts.position batches → IsState t → first_due t ≡ Some place → AnswersFront (start ++ added) (committed_all batches)
  answered_front added s t [] place stands free each own is due =
      let now = (each.stands base added stands).values start legal same in
      let over = subst (λ (entries : List Entry). HasValues (start ++ entries) t) (append-nil added) now in
      let (next, later, are) = one_due (start ++ added) t place over is due in
      record { front = []; next = next; later = later; due = are; answers = refl }
  answered_front added s t (batch ∷ batches) place stands free each own is due =
      let next = each.1.0 in
      let more = each.1.1 in
      let has = stands.values start legal same in
      let on = more.stands base added stands in
      let joined : start ++ (added ++ Committed batch ∷ []) ≡ (start ++ added) ++ Committed batch ∷ [] = sym (append_assoc start added (Committed batch ∷ [])) in
      let now = subst (λ (entries : List Entry). HasValues entries next) joined (on.values start legal same) in
      let first = due_then (start ++ added) s next batch each.0 free more has now (known_runs next t batches each.1.2 is) in
      let cut : batch.cut ≡ length (start ++ added) = own.0 ∙ sym (ap (λ (counts : Counts). counts.position) has.counts) in
      let own_now = subst (λ (place : ℕ). AreOwn place batches) (sym (ap (λ (counts : Counts). counts.position) more.counts)) own.2 in
      let rest = subst (λ (entries : List Entry). AnswersFront entries (committed_all batches)) joined (answered_front (added ++ Committed batch ∷ []) next t batches place on (more.free free) each.1.2 own_now is due) in
      record {
        front = batch.query ∷ rest.front;
        next = rest.next;
        later = rest.later;
        due = first ∙ ap (λ (queries : List QueryKey). batch.query ∷ queries) rest.due;
        answers = (batch, committed_all batches, refl, cut, rest.answers, refl);
      }
