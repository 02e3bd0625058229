-- The batch of the query that is due first.
use Rattle.std.proofs.Common.{◌≡◌, ℕ, ◌+◌, ◌≤◌, ◌<◌, Bool, true, false, cond, List, [], ◌∷◌, ◌++◌, length, Option, Some, None, refl, sym, ap, ◌∙◌, subst, arith}
use Rattle.std.specs.Prelude.{find, nat_le, nat_lt, set, ◌==◌, ◌^◌, slice_get, option_map, IfSome}
use Rattle.std.proofs.lemmas.Bool.Decides.{nat_tests}
use Rattle.std.proofs.lemmas.List.{append-nil}
use Rattle.std.proofs.lemmas.List.Elements.{All-contains}
use Rattle.osq_value.specs.declared.value.Value.{Value}
use Rattle.sql_texts.specs.Meaning.{is_accepted}
use Rattle.pack_rules.specs.declared.schedule.QueryKey.{QueryKey}
use Rattle.pack_rules.specs.declared.schedule.Schedule.{Schedule}
use Rattle.pack_rules.specs.declared.schedule.Scheduled.{Scheduled}
use Rattle.entry_model.specs.declared.entry.Batch.{Batch}
use Rattle.entry_model.specs.declared.entry.Entry.{Entry}
use Rattle.entry_model.specs.declared.entry.Entry.TheVariants.{Committed}
use Rattle.entry_model.specs.declared.restored.Restored.{Restored}
use Rattle.entry_model.specs.Runs.{with_batch}
use Rattle.pack_rules.specs.Sound.{IsRunnable}
use Rattle.query_cursors.specs.Due as cursors
use Rattle.session_state.specs.declared.state.CommitRefusal.{CommitRefusal}
use Rattle.session_state.specs.declared.state.CommitRefusal.TheVariants.{Superseded, NumbersSpent}
use Rattle.session_state.specs.Kept.{Counts, Kept, IsState, counts_next, due_count}
use Rattle.session_state.specs.Marks.{IsRising, behind_marks}
use Rattle.session_state.specs.Rooms.{all_due}
use Rattle.session_state.specs.StateOf.{IsStateOf}
use Rattle.session_state.specs.Ticks.{first_due}
use Rattle.session_state.specs.Cut.{CutValue, batch_of}
use Rattle.session_state.specs.CutOf.{mark_from}
use Rattle.session_state.specs.Cutting.{next_place, next_cut, cut_at, cut_of, claimed_at, CutStands}
use Rattle.session_state.specs.Commits.{Commits, commit_refusal, refusal_by}
use Rattle.session_state.proofs.Cutting.{contains_at, is_next}
use Rattle.session_state.proofs.Rooms.{fewer_due}
use Rattle.daemon_rounds.specs.Adding.{AreFree, AddsEntries}
use Rattle.daemon_rounds.specs.Answering.{AnswersFirst, IsTellable}
use Rattle.daemon_rounds.proofs.Adding.{IsLike, brings_none, stands_like}
use Rattle.daemon_rounds.proofs.Freed.{freed, next_is}

-- the cut that a state gives is that of a query of its schedule
pub record IsGiven (s : Kept) (cut : CutValue) : Type 0 where
  pub place : ℕ
  pub next : next_place s ≡ Some place
  pub scheduled : Scheduled
  pub stands : slice_get s.schedule.queries place ≡ Some scheduled
  pub is : cut ≡ cut_of s place scheduled

pub given : (s : Kept) (cut : CutValue) → Some cut ≡ next_cut s → IsGiven s cut
given s cut h = by_place (next_place s) refl h
  where
    by_query : (place : ℕ) → next_place s ≡ Some place → (o : Option Scheduled) → slice_get s.schedule.queries place ≡ o → Some cut ≡ option_map (cut_of s place) o → IsGiven s cut
    by_query place next None e h = absurd (cc)
    by_query place next (Some scheduled) e h =
        record { place = place; next = next; scheduled = scheduled; stands = e; is = (cc) }

    by_place : (o : Option ℕ) → next_place s ≡ o → Some cut ≡ cut_at s o → IsGiven s cut
    by_place None e h = absurd (cc)
    by_place (Some place) e h = by_query place e (slice_get s.schedule.queries place) refl h

-- the cut that was given stands for what the state does
pub stands_cut : (s : Kept) (found : Option CutValue) (cut : CutValue) → found ≡ Some cut → IfSome found (λ (cut : CutValue). (base : Restored) (added : List Entry) → IsStateOf base added s → CutStands base added cut) → (base : Restored) (added : List Entry) → IsStateOf base added s → CutStands base added cut
stands_cut s found cut is stands = subst (λ (o : Option CutValue). IfSome o (λ (cut : CutValue). (base : Restored) (added : List Entry) → IsStateOf base added s → CutStands base added cut)) is stands

behind_least : (from : ℕ) (marks : List ℕ) → IsRising from marks → from ≤ behind_marks from marks
behind_least from [] rising = omega arith
behind_least from (mark ∷ marks) rising =
    let low = rising.0 in let rest = behind_least (mark + 1) marks rising.1 in omega (arith, low, rest)

none_behind : (position from : ℕ) (marks : List ℕ) → IsRising from marks → behind_marks from marks ≤ position → find (λ (mark : ℕ). nat_le position mark) marks ≡ None
none_behind position from [] rising past = refl
none_behind position from (mark ∷ marks) rising past =
    let least = behind_least (mark + 1) marks rising.1 in
    let before : nat_le position mark ≡ false = grind (arith, nat_tests, least, past) in
    ap (λ (b : Bool). cond b (Some mark) (find (λ (mark : ℕ). nat_le position mark) marks)) before ∙ none_behind position (mark + 1) marks rising.1 past

module _ (s : Kept) (is : IsState s) (cut : CutValue) (g : IsGiven s cut) (t : Kept) (claimed : t ≡ claimed_at s (next_place s)) where
  claimed_is : t ≡ record s { claims = set s.claims g.place true }
  claimed_is = claimed ∙ ap (claimed_at s) g.next

  like : IsLike s t
  like = subst (IsLike s) (sym claimed_is) (record { counts = refl; image = refl; schedule = refl; ticked = refl; marks = refl; tail = refl })

  runnable : IsRunnable g.scheduled
  runnable =
      All-contains IsRunnable s.schedule.queries g.scheduled is.schedule.runnable (contains_at s.schedule.queries g.place g.scheduled g.stands)

  key_is : cut.key ≡ g.scheduled.key
  key_is = ap (λ (c : CutValue). c.key) g.is

  pub accepted : is_accepted cut.key.text ≡ true
  accepted = ap (λ (k : QueryKey). is_accepted k.text) key_is ∙ runnable.accepted

  -- only the numbers keep the batch from being added
  pub only_spent : (refusal : CommitRefusal) → commit_refusal t cut ≡ Some refusal → (refusal ≡ NumbersSpent cut) × (2 ^ 62 < t.counts.batches + 1)
  only_spent refusal h = by_bound (nat_lt (2 ^ 62) (t.counts.batches + 1)) refl (sym passed ∙ h)
    where
      last_is : cursors.number_of t.counts.runs cut.key ≡ cut.last
      last_is =
          ap (λ (c : Counts). cursors.number_of c.runs cut.key) like.counts ∙ ap (cursors.number_of s.counts.runs) key_is ∙ sym (ap (λ (c : CutValue). c.last) g.is)

      equal : (cursors.number_of t.counts.runs cut.key == cut.last) ≡ true
      equal = grind (arith, nat_tests, last_is)

      unmarked : mark_from t cut.position ≡ None
      unmarked =
          ap (λ (marks : List ℕ). find (λ (mark : ℕ). nat_le cut.position mark) marks) like.marks ∙ ap (λ (n : ℕ). find (λ (mark : ℕ). nat_le n mark) s.marks) (ap (λ (c : CutValue). c.position) g.is) ∙ none_behind s.counts.position 0 s.marks is.rising is.past

      passed : commit_refusal t cut ≡ refusal_by t cut None
      passed =
          ap (λ (b : Bool). cond b (refusal_by t cut (mark_from t cut.position)) (Some (Superseded (cursors.number_of t.counts.runs cut.key) cut))) equal ∙ ap (refusal_by t cut) unmarked

      by_bound : (b : Bool) → nat_lt (2 ^ 62) (t.counts.batches + 1) ≡ b → refusal_by t cut None ≡ Some refusal → (refusal ≡ NumbersSpent cut) × (2 ^ 62 < t.counts.batches + 1)
      by_bound true e k =
          let found : Some (NumbersSpent cut) ≡ Some refusal = sym (ap (λ (b : Bool). cond b (Some (NumbersSpent cut)) None) e) ∙ k in
          ((cc), grind (arith, nat_tests, e))
      by_bound false e k =
          absurd (let found : None ≡ Some refusal = sym (ap (λ (b : Bool). cond b (Some (NumbersSpent cut)) None) e) ∙ k in cc)

  pub still_due : AreFree s.claims → (place : ℕ) × (first_due s ≡ Some place)
  still_due free = (g.place, sym (next_is s is free) ∙ g.next)

  pub spent : (refusal : CommitRefusal) → commit_refusal t cut ≡ Some refusal → 2 ^ 62 < s.counts.batches + 1
  spent refusal h = subst (λ (c : Counts). 2 ^ 62 < c.batches + 1) like.counts (only_spent refusal h).1

  module _ (rows : List (List Value)) (new : Kept) (c : Commits t cut rows new) (cuts : (base : Restored) (added : List Entry) → IsStateOf base added s → CutStands base added cut) where
    abbrev batch : Batch
    batch = batch_of cut (t.counts.batches + 1) rows

    -- the query of the batch is claimed, and then not any more
    free_after : new.claims ≡ set t.claims cut.place false → AreFree s.claims → AreFree new.claims
    free_after claims free =
        let are : new.claims ≡ set (set s.claims g.place true) g.place false = claims ∙ (λ i. set (claimed_is i).claims (g.is i).place false) in
        subst AreFree (sym are) (freed s.claims g.place free)

    pub brings_batch : new.claims ≡ set t.claims cut.place false → AddsEntries s (Committed batch ∷ []) new
    brings_batch claims = record {
      stands = λ base added stands.
          let at = c.stands base added [] (cuts base added stands) (subst (λ (es : List Entry). IsStateOf base es t) (sym (append-nil added)) (stands_like s t like base added stands)) in
          subst (λ (es : List Entry). IsStateOf base (es ++ Committed batch ∷ []) new) (append-nil added) at;
      counts = c.moves.counts ∙ ap (λ (k : Counts). counts_next k (Committed batch)) like.counts;
      schedule = c.moves.schedule ∙ like.schedule;
      ticked = c.moves.ticked ∙ like.ticked;
      tail = c.moves.tail ∙ ap (λ (es : List Entry). es ++ Committed batch ∷ []) like.tail;
      free = free_after claims;
    }

    pub answers_first : AnswersFirst s batch
    answers_first = record {
      is = is;
      now = ap (λ (c : CutValue). c.moment) g.is;
      first = λ free. (g.place, (g.scheduled, sym (next_is s is free) ∙ g.next, g.stands, key_is));
    }

    pub own_place : batch.cut ≡ s.counts.position
    own_place = ap (λ (c : CutValue). c.position) g.is

    pub tellable : IsTellable batch
    tellable =
        record { accepted = accepted; calendar = (let at = ap (λ (c : CutValue). c.moment) g.is in let past = is.moment in omega (arith, at, past)) }

    pub fewer : due_count new + 1 ≤ due_count s
    fewer =
        subst (λ (n : ℕ). n + 1 ≤ due_count s) (sym same) (fewer_due cut.key (t.counts.batches + 1) cut.hi s.counts.moment s.counts.runs s.schedule.queries is.schedule.runnable g.place g.scheduled g.stands (sym key_is) runnable.at_least (is_next s is g.place g.scheduled g.stands g.next).due)
      where
        moment_is : cut.moment ≡ s.counts.moment
        moment_is = ap (λ (c : CutValue). c.moment) g.is

        runs_are : new.counts.runs ≡ with_batch s.counts.runs cut.key (t.counts.batches + 1) cut.hi s.counts.moment
        runs_are =
            ap (λ (k : Counts). k.runs) c.moves.counts ∙ (λ i. with_batch (like.counts i).runs cut.key (t.counts.batches + 1) cut.hi (moment_is i))

        now_is : new.counts.moment ≡ s.counts.moment
        now_is = ap (λ (k : Counts). k.moment) c.moves.counts ∙ ap (λ (k : Counts). k.moment) like.counts

        queries_are : new.schedule.queries ≡ s.schedule.queries
        queries_are = ap (λ (d : Schedule). d.queries) (c.moves.schedule ∙ like.schedule)

        same : due_count new ≡ length (all_due (with_batch s.counts.runs cut.key (t.counts.batches + 1) cut.hi s.counts.moment) s.counts.moment s.schedule.queries)
        same = λ i. length (all_due (runs_are i) (now_is i) (queries_are i))

claimed_like : (s : Kept) (o : Option ℕ) → IsLike s (claimed_at s o)
claimed_like s None = record { counts = refl; image = refl; schedule = refl; ticked = refl; marks = refl; tail = refl }
claimed_like s (Some place) =
    record { counts = refl; image = refl; schedule = refl; ticked = refl; marks = refl; tail = refl }

due_claimed : (s : Kept) (o : Option ℕ) → first_due (claimed_at s o) ≡ first_due s
due_claimed s None = refl
due_claimed s (Some place) = refl

-- where no query is due, none is cut, and nothing is added
pub none_due : (s t : Kept) → IsState s → t ≡ claimed_at s (next_place s) → first_due s ≡ None → (first_due t ≡ None) × AddsEntries s [] t
none_due s t is claimed none =
    (ap first_due claimed ∙ due_claimed s (next_place s) ∙ none, brings_none s t (subst (IsLike s) (sym claimed) (claimed_like s (next_place s))) free_after)
  where
    free_after : AreFree s.claims → AreFree t.claims
    free_after free =
        let same : t ≡ s = claimed ∙ ap (claimed_at s) (next_is s is free ∙ none) in subst (λ (u : Kept). AreFree u.claims) (sym same) free
