-- What a worker's seat has added, turn by turn.
use Rattle.std.proofs.Common.{◌≡◌, ℕ, List, Option, Result}
use Rattle.osq_value.specs.declared.memory.NoMemory.{NoMemory}
use Rattle.osq_value.specs.declared.value.Value.{Value}
use Rattle.sql_texts.specs.Meaning.{meaning}
use Rattle.event_store.specs.Contents.{rows_in}
use Rattle.session_state.specs.Kept.{Kept}
use Rattle.session_state.specs.declared.state.CommitRefusal.{CommitRefusal}
use Rattle.session_state.specs.Cut.{CutValue}
use Rattle.turn_lock.specs.declared.board.Stands.{Ghosts}
use Rattle.turn_lock.specs.declared.lock.TurnSeat.{TurnSeat}
use Rattle.turn_lock.specs.Words.{number, seen, IsSame}
use Rattle.shared_store.specs.declared.noted.Noted.{Noted}
use Rattle.shared_store.specs.declared.shared.Shared.{Shared}
use Rattle.shared_store.specs.Answers.{CommitsAt, Cuts, Releases}
use Rattle.shared_store.specs.Notes.{WasGiven}
use Rattle.shared_store.specs.Turns.{InTurn, notes_of}
use Rattle.thread_laws.specs.Jobs.{Stamped}
use Rattle.thread_jobs.specs.Working.{AnswersOf}
use Rattle.thread_jobs.proofs.InTime.{in_time_none, timely_commit, timely_cut, timely_release, timely_seat}
use Rattle.thread_jobs.proofs.Worked.{seat_then, worked_commit, worked_cut, worked_none, worked_release}

pub answers_none : (start : Kept) (n : ℕ) (xs : Stamped) → AnswersOf start n xs xs
answers_none start n xs = record { worked = worked_none n xs; timely = in_time_none start n xs }

module _ {g : Ghosts Shared Kept Noted} (start : Kept) (old new : TurnSeat Shared Kept Noted g) where
  pub answers_cut : (before after : ℕ) (result : Result (Option CutValue) NoMemory) → InTurn start old new (Cuts before after result) → AnswersOf start (number old) (seen old) (seen new)
  answers_cut before after result turn =
      record { worked = worked_cut start old new before after result turn; timely = timely_cut start old new before after result turn }

  pub answers_commit : (cut : CutValue) (rows : List (List Value)) (result : Result ℕ CommitRefusal) → WasGiven cut (notes_of old) → rows ≡ meaning cut.key.text (rows_in cut.view) → InTurn start old new (CommitsAt cut rows result)
      → AnswersOf start (number old) (seen old) (seen new)
  answers_commit cut rows result given answers turn =
      record { worked = worked_commit start old new cut rows result given answers turn; timely = timely_commit start old new cut rows result given turn }

  pub answers_release : (cut : CutValue) → InTurn start old new (Releases cut) → AnswersOf start (number old) (seen old) (seen new)
  answers_release cut turn =
      record { worked = worked_release start old new cut turn; timely = timely_release start old new cut turn }

  -- two stretches of one seat
  pub answers_then : (mid : TurnSeat Shared Kept Noted g) → IsSame old mid → AnswersOf start (number old) (seen old) (seen mid) → AnswersOf start (number mid) (seen mid) (seen new) → AnswersOf start (number old) (seen old) (seen new)
  answers_then mid same x y =
      record { worked = seat_then old mid new same x.worked y.worked; timely = timely_seat start old mid new same x.timely y.timely }

  -- a commit that is refused, and the turn in which its cut is given back
  pub answers_refused : (mid : TurnSeat Shared Kept Noted g) (cut other : CutValue) (rows : List (List Value)) (result : Result ℕ CommitRefusal) → WasGiven cut (notes_of old) → rows ≡ meaning cut.key.text (rows_in cut.view) → IsSame old mid → InTurn start old mid (CommitsAt cut rows result) → InTurn start mid new (Releases other)
      → AnswersOf start (number old) (seen old) (seen new)
  answers_refused mid cut other rows result given answers same turn next = record {
    worked = seat_then old mid new same (worked_commit start old mid cut rows result given answers turn) (worked_release start mid new other next);
    timely = timely_seat start old mid new same (timely_commit start old mid cut rows result given turn) (timely_release start mid new other next);
  }

  -- a cut that is given back
  pub answers_nothing : (mid : TurnSeat Shared Kept Noted g) (before after : ℕ) (cut : CutValue) (result : Result (Option CutValue) NoMemory) → IsSame old mid → InTurn start old mid (Cuts before after result) → InTurn start mid new (Releases cut) → AnswersOf start (number old) (seen old) (seen new)
  answers_nothing mid before after cut result same turn next = record {
    worked = seat_then old mid new same (worked_cut start old mid before after result turn) (worked_release start mid new cut next);
    timely = timely_seat start old mid new same (timely_cut start old mid before after result turn) (timely_release start mid new cut next);
  }

  -- a cut, and what comes of it
  pub answers_next : (mid : TurnSeat Shared Kept Noted g) (before after : ℕ) (result : Result (Option CutValue) NoMemory) → IsSame old mid → InTurn start old mid (Cuts before after result) → AnswersOf start (number mid) (seen mid) (seen new) → AnswersOf start (number old) (seen old) (seen new)
  answers_next mid before after result same turn more = record {
    worked = seat_then old mid new same (worked_cut start old mid before after result turn) more.worked;
    timely = timely_seat start old mid new same (timely_cut start old mid before after result turn) more.timely;
  }
