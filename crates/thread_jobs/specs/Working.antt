-- What a worker does by its own seat.
use Rattle.std.specs.Prelude.{◌≡◌, ℕ, ◌+◌, ◌<◌, ◌^◌, List, ◌++◌}
use Rattle.session_state.specs.Kept.{IsState, Kept}
use Rattle.shared_store.specs.declared.noted.Noted.{Noted}
use Rattle.shared_store.specs.Shares.{StandsFor}
use Rattle.thread_laws.specs.Jobs.{IsWorked, Stamped}
use Rattle.thread_laws.specs.Timely.{AreTimely}

-- at some moment that is among what was seen, the next batch's number would have passed 2^62
pub record BatchesSpent (start : Kept) (notes : List Noted) : Type 0 where
  pub front : List Noted
  pub rest : List Noted
  pub are : notes ≡ front ++ rest
  pub state : Kept
  pub is : IsState state
  pub stands : StandsFor start front state
  pub beyond : 2 ^ 62 < state.counts.batches + 1

-- behind what it had seen, the seat of this number has seen no batch of its own but such as were made at the moment of their turn
pub record AreInTime (start : Kept) (number : ℕ) (before after : Stamped) : Type 0 where
  pub more : Stamped
  pub grown : after ≡ before ++ more
  pub timely : AreTimely start number before more

-- Whatever comes of a worker, its seat adds batches alone, each of which can be sent and is made at the moment of its turn.
pub record AnswersOf (start : Kept) (number : ℕ) (before after : Stamped) : Type 0 where
  pub worked : IsWorked number before after
  pub timely : AreInTime start number before after
