-- Where a batch stands among the schedules and the batches of its query.
use Rattle.std.specs.Prelude.{ℕ, ◌-◌, Bool, true, false, List, length, take, filter, slice_get, Option, option_map}
use Rattle.entry_model.specs.declared.entry.Batch.{Batch}
use Rattle.entry_model.specs.declared.entry.Entry.{Entry}
use Rattle.entry_model.specs.declared.entry.Entry.TheVariants.{Configured}
use Rattle.entry_model.specs.declared.entry.Stamp.{Stamp}
use Rattle.entry_model.specs.Values.{commits, same_key}

abbrev pub is_configured : Entry → Bool
is_configured (Configured document schedule moment) = true
is_configured _ = false

-- how often these entries configure a session
abbrev pub configurations : List Entry → ℕ
configurations entries = length (filter is_configured entries)

-- the stamp of a batch of the list that has these batches before it
abbrev pub stamp_behind : List Entry → List Batch → Batch → Stamp
stamp_behind entries before batch =
    record {
      epoch = configurations (take batch.cut entries);
      counter = length (filter (λ (other : Batch). same_key other.query batch.query) before);
    }

-- the stamp of the batch of this number among those of the list, counted from 1
abbrev pub stamp_of : List Entry → ℕ → Option Stamp
stamp_of entries number = option_map (stamp_behind entries (take (number - 1) (commits entries))) (slice_get (commits entries) (number - 1))
