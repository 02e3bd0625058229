-- What contracts see of a cut.
use Rattle.std.specs.Prelude.{ℕ, List}
use Rattle.osq_value.specs.declared.value.Value.{Value}
use Rattle.pack_rules.specs.declared.schedule.QueryKey.{QueryKey}
use Rattle.entry_model.specs.declared.entry.Batch.{Batch}
use Rattle.event_store.specs.Contents.{Shown}

pub record CutValue : Type 0 where
  pub place : ℕ  -- of its query in the schedule
  pub key : QueryKey
  pub lo : ℕ  -- its events are those above this number
  pub hi : ℕ  -- the number of the last event
  pub position : ℕ  -- how many entries it is made from
  pub moment : ℕ
  pub last : ℕ  -- the number of the query's last batch, or 0
  pub view : Shown

-- the batch of this number that answers the cut
abbrev pub batch_of : CutValue → ℕ → List (List Value) → Batch
batch_of cut number rows =
    record { number = number; query = cut.key; lo = cut.lo; hi = cut.hi; cut = cut.position; moment = cut.moment; rows = rows }
