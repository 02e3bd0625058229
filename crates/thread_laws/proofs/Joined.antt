-- What each seat had added when its thread ended is what the joined list has under its number.
use Rattle.std.proofs.Common.{◌≡◌, ℕ, ◌==◌, List, ◌++◌, ap, sym, ◌∙◌, subst, append_assoc, append-nil}
use Rattle.std.specs.Prelude.{All, Contains}
use Rattle.std.specs.List.{AllZip}
use Rattle.std.proofs.lemmas.List.{append_cancel_left}
use Rattle.std.proofs.lemmas.List.Elements.{All-weaker}
use Rattle.entry_model.specs.Fits.{IsDistinct}
use Rattle.turn_lock.specs.Own.{own}
use Rattle.shared_store.specs.declared.noted.Noted.{Noted}
use Rattle.thread_laws.specs.Jobs.{Stamped, IsNoteOf, IsAnswerNote}
use Rattle.thread_laws.specs.Joining.{Part, numbers_of, HasPublished, HasWorked, AreAdded}
use Rattle.thread_laws.specs.Laws.{OwnJoined}
use Rattle.turn_lock.proofs.Owned.{own-append, own_none}

-- the seat's own notes are all of its number behind what it had seen before
pub own_joined : OwnJoined
own_joined number before after more notes adds grows =
    let parts : more ≡ adds.more ++ grows.0 = append_cancel_left before more (adds.more ++ grows.0) (grows.1 ∙ ap (λ (l : Stamped). l ++ grows.0) adds.grown ∙ append_assoc before adds.more grows.0) in
    ap (own number) parts ∙ own-append number adds.more grows.0 ∙ ap (λ (l : List Noted). own number adds.more ++ l) (own_none number grows.0 grows.2) ∙ append-nil (own number adds.more) ∙ adds.are

pub joins : (parts : List Part) (workers : List ℕ) (before more : Stamped) → All (HasPublished before (before ++ more)) parts → All (HasWorked before (before ++ more)) workers → IsDistinct ◌==◌ (numbers_of workers parts)
    → All (λ (note : ℕ × Noted). Contains (numbers_of workers parts) note.0) more → AreAdded parts workers more
joins parts workers before more published worked distinct numbered =
    let P : Part → Type 0 = λ (part : Part). AllZip (IsNoteOf part.name) part.readings (own part.number more) in
    let W : ℕ → Type 0 = λ (worker : ℕ). All IsAnswerNote (own worker more) in
    record {
      published = All-weaker (HasPublished before (before ++ more)) P (λ part h. subst (AllZip (IsNoteOf part.name) part.readings) (sym (own_joined part.number before h.after more h.is.notes h.is.adds h.joined)) h.is.each) parts published;
      answered = All-weaker (HasWorked before (before ++ more)) W (λ worker h. subst (All IsAnswerNote) (sym (own_joined worker before h.after more h.is.notes h.is.adds h.joined)) h.is.each) workers worked;
      distinct = distinct;
      numbered = numbered;
    }
