-- What a worker's seat has added.
use Rattle.std.proofs.Common.{◌≡◌, ◌≢◌, ℕ, ◌+◌, ◌<◌, Bool, true, false, List, [], ◌∷◌, ◌++◌, Option, Some, None, Result, Ok, Err, refl, sym, ap, ap₂, ◌∙◌, subst, append_assoc, append-nil, arith}
use Rattle.std.specs.Prelude.{All, ◌==◌, ◌^◌, nat_lt, if◌then◌else◌}
use Rattle.std.proofs.lemmas.Bool.Decides.{nat_tests}
use Rattle.std.proofs.lemmas.List.Elements.{All-append, All-cons, All-nil}
use mathlib.Core.List.{map-append}
use Rattle.osq_value.specs.declared.memory.NoMemory.{NoMemory}
use Rattle.osq_value.specs.declared.value.Value.{Value}
use Rattle.sql_texts.specs.Meaning.{is_accepted, meaning}
use Rattle.event_store.specs.Contents.{rows_in}
use Rattle.query_cursors.specs.Due.{number_of}
use Rattle.session_state.specs.declared.state.CommitRefusal.{CommitRefusal}
use Rattle.session_state.specs.declared.state.CommitRefusal.TheVariants.{Superseded, Stale, NumbersSpent}
use Rattle.session_state.specs.Commits.{commit_refusal, committed, refusal_by}
use Rattle.session_state.specs.Cut.{CutValue, batch_of}
use Rattle.session_state.specs.CutOf.{mark_from}
use Rattle.session_state.specs.Kept.{Kept}
use Rattle.session_state.specs.Sealing.{IsSendable}
use Rattle.session_state.proofs.Committing.{IsReady, ready, sendable}
use Rattle.turn_lock.specs.declared.board.Stands.{Ghosts}
use Rattle.turn_lock.specs.declared.lock.TurnSeat.{TurnSeat}
use Rattle.turn_lock.specs.Turns.{Grows, entries, stamp}
use Rattle.turn_lock.specs.Words.{number, seen, IsOther, IsSame}
use Rattle.turn_lock.proofs.Lists.{entries-stamp}
use Rattle.turn_lock.proofs.Owned.{own-append}
use Rattle.shared_store.specs.declared.noted.Noted.{Noted}
use Rattle.shared_store.specs.declared.noted.Noted.TheVariants.{Added, Given}
use Rattle.shared_store.specs.declared.shared.Shared.{Shared}
use Rattle.shared_store.specs.Answers.{CommitsAt, Cuts, Notes, Releases}
use Rattle.shared_store.specs.Notes.{WasGiven}
use Rattle.shared_store.specs.Shares.{StandsFor}
use Rattle.shared_store.specs.Turns.{BeginsTurn, EndsTurn, InTurn, notes_of}
use Rattle.daemon_rounds.proofs.Answered.{accepted, given}
use Rattle.thread_laws.specs.Jobs.{IsAnswerNote, IsWorked, Stamped}
use Rattle.thread_laws.specs.Reached.{NoneDue}
use Rattle.thread_jobs.specs.Working.{BatchesSpent}
use Rattle.thread_jobs.proofs.InTime.{knows, not_refused}
use Rattle.thread_jobs.proofs.Owning.{adds_none, adds_turn}

pub worked_none : (n : ℕ) (xs : Stamped) → IsWorked n xs xs
worked_none n xs = record { notes = []; adds = adds_none n xs; each = All-nil IsAnswerNote }

-- one stretch behind another
pub worked_then : (n : ℕ) (first mid last : Stamped) → IsWorked n first mid → IsWorked n mid last → IsWorked n first last
worked_then n first mid last x y = record {
  notes = x.notes ++ y.notes;
  adds = record {
    more = x.adds.more ++ y.adds.more;
    grown = y.adds.grown ∙ ap (λ (l : Stamped). l ++ y.adds.more) x.adds.grown ∙ append_assoc first x.adds.more y.adds.more;
    are = own-append n x.adds.more y.adds.more ∙ ap₂ (λ (p q : List Noted). p ++ q) x.adds.are y.adds.are;
  };
  each = All-append IsAnswerNote x.notes y.notes x.each y.each;
}

-- the list that the seat has seen behind a turn
pub notes_behind : {g : Ghosts Shared Kept Noted} (start : Kept) (mid new : TurnSeat Shared Kept Noted g) (now : Kept) (notes : List Noted) → EndsTurn start mid new now notes → notes_of new ≡ notes_of mid ++ notes
notes_behind start mid new now notes ends = ap (λ (l : Stamped). entries l) ends.sees ∙ entries-stamp (seen mid) (number mid) notes

-- a state of before stands at the end of a turn that noted nothing
pub stands_still : {g : Ghosts Shared Kept Noted} (start : Kept) (mid new : TurnSeat Shared Kept Noted g) (was now : Kept) (notes : List Noted) → StandsFor start (notes_of mid) was → EndsTurn start mid new now notes → notes ≡ []
    → StandsFor start (notes_of new) was
stands_still start mid new was now notes stands ends none =
    subst (λ (l : List Noted). StandsFor start l was) (sym (notes_behind start mid new now notes ends ∙ ap (λ (l : List Noted). notes_of mid ++ l) none ∙ append-nil (notes_of mid))) stands

-- the numbers keep a cut from being committed
spends : (s : Kept) (cut other : CutValue) → commit_refusal s cut ≡ Some (NumbersSpent other) → 2 ^ 62 < s.counts.batches + 1
spends s cut other h = by_number (number_of s.counts.runs cut.key == cut.last) h
  where
    by_bound : (b : Bool) → nat_lt (2 ^ 62) (s.counts.batches + 1) ≡ b → (if b then Some (NumbersSpent cut) else None) ≡ Some (NumbersSpent other) → 2 ^ 62 < s.counts.batches + 1
    by_bound true e h = grind (arith, nat_tests, e)
    by_bound false e h = absurd (cc)

    by_mark : (mark : Option ℕ) → refusal_by s cut mark ≡ Some (NumbersSpent other) → 2 ^ 62 < s.counts.batches + 1
    by_mark (Some position) h = absurd (cc)
    by_mark None h = by_bound (nat_lt (2 ^ 62) (s.counts.batches + 1)) refl h

    by_number : (b : Bool) → (if b then refusal_by s cut (mark_from s cut.position) else Some (Superseded (number_of s.counts.runs cut.key) cut)) ≡ Some (NumbersSpent other) → 2 ^ 62 < s.counts.batches + 1
    by_number true h = by_mark (mark_from s cut.position) h
    by_number false h = absurd (cc)

module _ {g : Ghosts Shared Kept Noted} (start : Kept) (old new : TurnSeat Shared Kept Noted g) where
  -- a turn that notes answers alone
  by_turn : (mid : TurnSeat Shared Kept Noted g) (was now : Kept) (notes : List Noted) → BeginsTurn start old mid was → EndsTurn start mid new now notes → All IsAnswerNote notes → IsWorked (number old) (seen old) (seen new)
  by_turn mid was now notes begins ends answers = record {
    notes = notes;
    adds = adds_turn (number old) (IsOther old) (λ k h. h.0) (seen old) (seen old) (seen mid) (seen new) (number mid) [] notes (adds_none (number old) (seen old)) begins.overhears ends.sees begins.same.number;
    each = answers;
  }

  nothing : (notes : List Noted) → notes ≡ [] → All IsAnswerNote notes
  nothing notes none = subst (All IsAnswerNote) (sym none) (All-nil IsAnswerNote)

  one_answer : (note : Noted) (notes : List Noted) → notes ≡ note ∷ [] → IsAnswerNote note → All IsAnswerNote notes
  one_answer note notes one is = subst (All IsAnswerNote) (sym one) (All-cons IsAnswerNote note [] is (All-nil IsAnswerNote))

  pub worked_cut : (before after : ℕ) (result : Result (Option CutValue) NoMemory) → InTurn start old new (Cuts before after result) → IsWorked (number old) (seen old) (seen new)
  worked_cut before after (Ok None) turn = by_turn turn.0 turn.1 turn.2 turn.3 turn.4 turn.5 (nothing turn.3 turn.6.noted)
  worked_cut before after (Ok (Some cut)) turn = by_turn turn.0 turn.1 turn.2 turn.3 turn.4 turn.5 (one_answer (Given cut) turn.3 turn.6.noted tt)
  worked_cut before after (Err error) turn = by_turn turn.0 turn.1 turn.2 turn.3 turn.4 turn.5 (nothing turn.3 turn.6.err.1)

  pub worked_commit : (cut : CutValue) (rows : List (List Value)) (result : Result ℕ CommitRefusal) → WasGiven cut (notes_of old) → rows ≡ meaning cut.key.text (rows_in cut.view) → InTurn start old new (CommitsAt cut rows result)
      → IsWorked (number old) (seen old) (seen new)
  worked_commit cut rows (Ok number) given answers turn = by_turn turn.0 turn.1 turn.2 turn.3 turn.4 turn.5 (one_answer (Added (committed turn.1 cut rows)) turn.3 turn.6.committed.1 can_send)
    where
      is_ready : IsReady turn.1 cut
      is_ready = ready turn.1 turn.1 refl cut cut refl turn.4.known (knows start old new cut turn.0 turn.1 given turn.4) (not_refused turn.1 cut number turn.6.refused)

      can_send : IsSendable (batch_of cut (turn.1.counts.batches + 1) rows)
      can_send = sendable turn.1 cut is_ready (turn.1.counts.batches + 1) rows answers (batch_of cut (turn.1.counts.batches + 1) rows) refl
  worked_commit cut rows (Err refusal) given answers turn = by_turn turn.0 turn.1 turn.2 turn.3 turn.4 turn.5 (nothing turn.3 turn.6.err.1)

  pub worked_release : (cut : CutValue) → InTurn start old new (Releases cut) → IsWorked (number old) (seen old) (seen new)
  worked_release cut turn = by_turn turn.0 turn.1 turn.2 turn.3 turn.4 turn.5 (nothing turn.3 turn.6.1)

  pub none_due : (before after : ℕ) → InTurn start old new (Cuts before after (Ok None)) → NoneDue start (notes_of new)
  none_due before after turn = record {
    state = turn.1;
    is = turn.4.known;
    stands = stands_still start turn.0 new turn.1 turn.2 turn.3 turn.4.stands turn.5 turn.6.noted;
    none = turn.6.none.0 refl;
  }

  pub accepted_cut : (before after : ℕ) (cut : CutValue) → InTurn start old new (Cuts before after (Ok (Some cut))) → is_accepted cut.key.text ≡ true
  accepted_cut before after cut turn = accepted turn.1 turn.4.known cut (given turn.1 cut turn.6.cut) turn.2 turn.6.claimed

  pub batches_spent : (cut other : CutValue) (rows : List (List Value)) → InTurn start old new (CommitsAt cut rows (Err (NumbersSpent other))) → BatchesSpent start (notes_of new)
  batches_spent cut other rows turn = record {
    front = notes_of new;
    rest = [];
    are = sym (append-nil (notes_of new));
    state = turn.1;
    is = turn.4.known;
    stands = stands_still start turn.0 new turn.1 turn.2 turn.3 turn.4.stands turn.5 turn.6.err.1;
    beyond = spends turn.1 cut other ((turn.6.refused (NumbersSpent other)).0 refl);
  }

-- it stays so behind notes more
pub spent_more : (start : Kept) (old new more : Stamped) → new ≡ old ++ more → BatchesSpent start (entries old) → BatchesSpent start (entries new)
spent_more start old new more grown s = record {
  front = s.front;
  rest = s.rest ++ entries more;
  are =
      ap (λ (l : Stamped). entries l) grown ∙ map-append (λ (x : ℕ × Noted). x.1) old more ∙ ap (λ (l : List Noted). l ++ entries more) s.are
      ∙ append_assoc s.front s.rest (entries more);
  state = s.state;
  is = s.is;
  stands = s.stands;
  beyond = s.beyond;
}

module _ {g : Ghosts Shared Kept Noted} where
  -- two stretches of one seat
  pub seat_then : (old mid new : TurnSeat Shared Kept Noted g) → IsSame old mid → IsWorked (number old) (seen old) (seen mid) → IsWorked (number mid) (seen mid) (seen new) → IsWorked (number old) (seen old) (seen new)
  seat_then old mid new same x y =
      worked_then (number old) (seen old) (seen mid) (seen new) x (subst (λ (k : ℕ). IsWorked k (seen mid) (seen new)) same.number y)

module _ {g : Ghosts Shared Kept Noted} (start : Kept) (old new : TurnSeat Shared Kept Noted g) where
  -- by what the call answered
  pub none_at : (before after : ℕ) (answer : Result (Option CutValue) NoMemory) → answer ≡ Ok None → InTurn start old new (Cuts before after answer) → NoneDue start (notes_of new)
  none_at before after answer is turn =
      none_due start old new before after (subst (λ (a : Result (Option CutValue) NoMemory). InTurn start old new (Cuts before after a)) is turn)

  pub accepted_at : (before after : ℕ) (answer : Result (Option CutValue) NoMemory) (cut : CutValue) → answer ≡ Ok (Some cut) → InTurn start old new (Cuts before after answer) → is_accepted cut.key.text ≡ true
  accepted_at before after answer cut is turn =
      accepted_cut start old new before after cut (subst (λ (a : Result (Option CutValue) NoMemory). InTurn start old new (Cuts before after a)) is turn)

  pub spent_at : (cut other : CutValue) (rows : List (List Value)) (answer : Result ℕ CommitRefusal) → answer ≡ Err (NumbersSpent other) → InTurn start old new (CommitsAt cut rows answer) → BatchesSpent start (notes_of new)
  spent_at cut other rows answer is turn = batches_spent start old new cut other rows (subst (λ (a : Result ℕ CommitRefusal). InTurn start old new (CommitsAt cut rows a)) is turn)

  -- and it stays so behind a turn of giving a cut back
  pub spent_behind : (cut : CutValue) → InTurn start old new (Releases cut) → BatchesSpent start (notes_of old) → BatchesSpent start (notes_of new)
  spent_behind cut turn s =
      spent_more start (seen old) (seen new) (turn.4.overhears.0 ++ stamp (number turn.0) turn.3)
      (turn.5.sees ∙ ap (λ (l : Stamped). l ++ stamp (number turn.0) turn.3) turn.4.overhears.1 ∙ append_assoc (seen old) turn.4.overhears.0 (stamp (number turn.0) turn.3)) s
