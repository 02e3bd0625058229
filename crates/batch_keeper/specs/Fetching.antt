-- Which batch of a kept list is fetched.
use Rattle.std.specs.Prelude.{ℕ, ◌-◌, nat_lt, if◌then◌else◌, List, Option, None, slice_get}
use Rattle.entry_model.specs.declared.entry.Batch.{Batch}
use Rattle.entry_model.specs.declared.entry.Entry.{Entry}
use Rattle.entry_model.specs.Values.{acked_upto, commits}

-- the batch of this number among those of the list, counted from 1, which is above what is acknowledged
abbrev pub fetched : List Entry → ℕ → Option Batch
fetched entries number = if nat_lt (acked_upto entries) number then slice_get (commits entries) (number - 1) else None
