-- Batches of a worker's seat, each of which was made at the moment of its turn.
use Rattle.std.proofs.Common.{◌≡◌, ◌≢◌, ℕ, ◌+◌, Bool, true, false, List, [], ◌∷◌, ◌++◌, Option, Some, None, Result, Ok, Err, refl, sym, ap, ◌∙◌, subst, append_assoc, append-nil}
use Rattle.std.specs.Prelude.{All, ◌==◌, ◌↔◌, if◌then◌else◌}
use Rattle.std.proofs.lemmas.List.Elements.{All-head, All-tail}
use mathlib.Core.List.{map-append}
use Rattle.osq_value.specs.declared.memory.NoMemory.{NoMemory}
use Rattle.osq_value.specs.declared.value.Value.{Value}
use Rattle.query_cursors.specs.Due.{number_of}
use Rattle.session_state.specs.declared.state.CommitRefusal.{CommitRefusal}
use Rattle.session_state.specs.declared.state.CommitRefusal.TheVariants.{Superseded}
use Rattle.session_state.specs.Commits.{commit_refusal, committed, refusal_by}
use Rattle.session_state.specs.Cut.{CutValue}
use Rattle.session_state.specs.CutOf.{IsCutOf, mark_from}
use Rattle.session_state.specs.Kept.{Kept}
use Rattle.turn_lock.specs.declared.board.Stands.{Ghosts}
use Rattle.turn_lock.specs.declared.lock.TurnSeat.{TurnSeat}
use Rattle.turn_lock.specs.Turns.{entries, stamp}
use Rattle.turn_lock.specs.Words.{number, seen, IsSame}
use Rattle.shared_store.specs.declared.noted.Noted.{Noted}
use Rattle.shared_store.specs.declared.noted.Noted.TheVariants.{Added, Given}
use Rattle.shared_store.specs.declared.shared.Shared.{Shared}
use Rattle.shared_store.specs.Answers.{CommitsAt, Cuts, Releases}
use Rattle.shared_store.specs.Notes.{WasGiven, entries_in}
use Rattle.shared_store.specs.Shares.{StandsFor}
use Rattle.shared_store.specs.Turns.{BeginsTurn, EndsTurn, InTurn, notes_of}
use Rattle.thread_laws.specs.Jobs.{Stamped}
use Rattle.thread_laws.specs.Timely.{AreTimely, IsNotedAt, moment_at}
use Rattle.thread_laws.proofs.Timely.{counts_moment}
use Rattle.thread_jobs.specs.Working.{AreInTime}

-- notes of other seats
others_timely : (start : Kept) (n : ℕ) (before more : Stamped) → All (λ (note : ℕ × Noted). note.0 ≢ n) more → AreTimely start n before more
others_timely start n before [] none = tt
others_timely start n before (note ∷ more) none = (
  λ same. absurd (All-head (λ (note : ℕ × Noted). note.0 ≢ n) note more none same),
  others_timely start n (before ++ note ∷ []) more (All-tail (λ (note : ℕ × Noted). note.0 ≢ n) note more none),
)

timely_then : (start : Kept) (n : ℕ) (before front rest : Stamped) → AreTimely start n before front → AreTimely start n (before ++ front) rest → AreTimely start n before (front ++ rest)
timely_then start n before [] rest x y = subst (λ (l : Stamped). AreTimely start n l rest) (append-nil before) y
timely_then start n before (note ∷ front) rest x y =
    (x.0, timely_then start n (before ++ note ∷ []) front rest x.1 (subst (λ (l : Stamped). AreTimely start n l rest) (sym (append_assoc before (note ∷ []) front)) y))

pub in_time_none : (start : Kept) (n : ℕ) (xs : Stamped) → AreInTime start n xs xs
in_time_none start n xs = record { more = []; grown = sym (append-nil xs); timely = tt }

-- one stretch behind another
pub in_time_then : (start : Kept) (n : ℕ) (first mid last : Stamped) → AreInTime start n first mid → AreInTime start n mid last → AreInTime start n first last
in_time_then start n first mid last x y = record {
  more = x.more ++ y.more;
  grown = y.grown ∙ ap (λ (l : Stamped). l ++ y.more) x.grown ∙ append_assoc first x.more y.more;
  timely = timely_then start n first x.more y.more x.timely (subst (λ (l : Stamped). AreTimely start n l y.more) x.grown y.timely);
}

-- the moment of a state is that behind the notes for which it stands
present : (start : Kept) (notes : List Noted) (state : Kept) → StandsFor start notes state → state.counts.moment ≡ moment_at start notes
present start notes state stands =
    ap (λ c. c.moment) stands.comes.counts ∙ counts_moment start.counts (entries_in notes)

-- a cut that isn't refused is one of the present tick
unmarked : (s : Kept) (cut : CutValue) → commit_refusal s cut ≡ None → mark_from s cut.position ≡ None
unmarked s cut h = by_number (number_of s.counts.runs cut.key == cut.last) h
  where
    by_mark : (mark : Option ℕ) → refusal_by s cut mark ≡ None → mark ≡ None
    by_mark (Some position) h = absurd (cc)
    by_mark None h = refl

    by_number : (b : Bool) → (if b then refusal_by s cut (mark_from s cut.position) else Some (Superseded (number_of s.counts.runs cut.key) cut)) ≡ None → mark_from s cut.position ≡ None
    by_number true h = by_mark (mark_from s cut.position) h
    by_number false h = absurd (cc)

pub not_refused : (s : Kept) (cut : CutValue) (number : ℕ) → ((refusal : CommitRefusal) → (Ok number ≡ Err refusal) ↔ (commit_refusal s cut ≡ Some refusal)) → commit_refusal s cut ≡ None
not_refused s cut number refused = by_refusal (commit_refusal s cut) refl
  where
    by_refusal : (o : Option CommitRefusal) → commit_refusal s cut ≡ o → commit_refusal s cut ≡ None
    by_refusal (Some refusal) e = let never = (refused refusal).1 e in absurd (cc)
    by_refusal None e = e

module _ {g : Ghosts Shared Kept Noted} (start : Kept) (old new : TurnSeat Shared Kept Noted g) where
  by_turn : (mid : TurnSeat Shared Kept Noted g) (was now : Kept) (notes : List Noted) → BeginsTurn start old mid was → EndsTurn start mid new now notes → AreTimely start (number old) (seen mid) (stamp (number old) notes)
      → AreInTime start (number old) (seen old) (seen new)
  by_turn mid was now notes begins ends timely = record {
    more = begins.overhears.0 ++ stamp (number old) notes;
    grown =
        ends.sees ∙ ap (λ (k : ℕ). seen mid ++ stamp k notes) begins.same.number
        ∙ ap (λ (l : Stamped). l ++ stamp (number old) notes) begins.overhears.1
        ∙ append_assoc (seen old) begins.overhears.0 (stamp (number old) notes);
    timely =
        timely_then start (number old) (seen old) begins.overhears.0 (stamp (number old) notes)
        (others_timely start (number old) (seen old) begins.overhears.0 (λ k d h. (begins.overhears.2 k d h).0))
        (subst (λ (l : Stamped). AreTimely start (number old) l (stamp (number old) notes)) begins.overhears.1 timely);
  }

  no_note : (mid : TurnSeat Shared Kept Noted g) (notes : List Noted) → notes ≡ [] → AreTimely start (number old) (seen mid) (stamp (number old) notes)
  no_note mid notes none = subst (λ (l : List Noted). AreTimely start (number old) (seen mid) (stamp (number old) l)) (sym none) tt

  one_note : (mid : TurnSeat Shared Kept Noted g) (note : Noted) (notes : List Noted) → notes ≡ note ∷ [] → IsNotedAt (moment_at start (notes_of mid)) note → AreTimely start (number old) (seen mid) (stamp (number old) notes)
  one_note mid note notes one is =
      subst (λ (l : List Noted). AreTimely start (number old) (seen mid) (stamp (number old) l)) (sym one) ((λ same. is), tt)

  pub timely_cut : (before after : ℕ) (result : Result (Option CutValue) NoMemory) → InTurn start old new (Cuts before after result) → AreInTime start (number old) (seen old) (seen new)
  timely_cut before after (Ok None) turn = by_turn turn.0 turn.1 turn.2 turn.3 turn.4 turn.5 (no_note turn.0 turn.3 turn.6.noted)
  timely_cut before after (Ok (Some cut)) turn = by_turn turn.0 turn.1 turn.2 turn.3 turn.4 turn.5 (one_note turn.0 (Given cut) turn.3 turn.6.noted tt)
  timely_cut before after (Err error) turn = by_turn turn.0 turn.1 turn.2 turn.3 turn.4 turn.5 (no_note turn.0 turn.3 turn.6.err.1)

  pub timely_release : (cut : CutValue) → InTurn start old new (Releases cut) → AreInTime start (number old) (seen old) (seen new)
  timely_release cut turn = by_turn turn.0 turn.1 turn.2 turn.3 turn.4 turn.5 (no_note turn.0 turn.3 turn.6.1)

  -- the state of a turn knows each cut that its seat had seen given
  pub knows : (cut : CutValue) (mid : TurnSeat Shared Kept Noted g) (was : Kept) → WasGiven cut (notes_of old) → BeginsTurn start old mid was → IsCutOf was cut
  knows cut mid was given begins = (begins.stands.cuts given.0 (given.1 ++ entries begins.overhears.0) cut are).own
    where
      are : notes_of mid ≡ given.0 ++ Given cut ∷ (given.1 ++ entries begins.overhears.0)
      are =
          ap (λ (l : Stamped). entries l) begins.overhears.1 ∙ map-append (λ (x : ℕ × Noted). x.1) (seen old) begins.overhears.0
          ∙ ap (λ (l : List Noted). l ++ entries begins.overhears.0) given.2
          ∙ append_assoc given.0 (Given cut ∷ given.1) (entries begins.overhears.0)

  pub timely_commit : (cut : CutValue) (rows : List (List Value)) (result : Result ℕ CommitRefusal) → WasGiven cut (notes_of old) → InTurn start old new (CommitsAt cut rows result) → AreInTime start (number old) (seen old) (seen new)
  timely_commit cut rows (Ok number) given turn =
      by_turn turn.0 turn.1 turn.2 turn.3 turn.4 turn.5 (one_note turn.0 (Added (committed turn.1 cut rows)) turn.3 turn.6.committed.1 made)
    where
      made : cut.moment ≡ moment_at start (notes_of turn.0)
      made =
          sym ((knows cut turn.0 turn.1 given turn.4).current (unmarked turn.1 cut (not_refused turn.1 cut number turn.6.refused))).now
          ∙ present start (notes_of turn.0) turn.1 turn.4.stands
  timely_commit cut rows (Err refusal) given turn = by_turn turn.0 turn.1 turn.2 turn.3 turn.4 turn.5 (no_note turn.0 turn.3 turn.6.err.1)

module _ {g : Ghosts Shared Kept Noted} where
  -- two stretches of one seat
  pub timely_seat : (start : Kept) (old mid new : TurnSeat Shared Kept Noted g) → IsSame old mid → AreInTime start (number old) (seen old) (seen mid) → AreInTime start (number mid) (seen mid) (seen new) → AreInTime start (number old) (seen old) (seen new)
  timely_seat start old mid new same x y =
      in_time_then start (number old) (seen old) (seen mid) (seen new) x (subst (λ (k : ℕ). AreInTime start k (seen mid) (seen new)) same.number y)
