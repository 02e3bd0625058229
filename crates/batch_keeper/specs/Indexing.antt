-- What a keeper in memory knows of where the batches of its list stand.
use Rattle.std.specs.Prelude.{◌≡◌, ◌≤◌, List, Option, Some, length, map, take, slice_get}
use Rattle.entry_model.specs.declared.entry.Batch.{Batch}
use Rattle.entry_model.specs.declared.entry.Entry.{Entry}
use Rattle.entry_model.specs.declared.entry.Entry.TheVariants.{Committed}
use Rattle.entry_model.specs.Values.{acked_upto, commits}
use Rattle.batch_keeper.specs.declared.indexed.Index.{Index}

abbrev pub stands_as : Batch → Option Entry
stands_as batch = Some (Committed batch)

-- of the entries that were looked at: at the places stand the batches, and no others, and this much is acknowledged
pub record IsIndex (entries : List Entry) (index : Index) : Type 0 where
  pub within : index.seen ≤ length entries
  pub batches : map (slice_get entries) index.places.items ≡ map stands_as (commits (take index.seen entries))
  pub mark : index.acked ≡ acked_upto (take index.seen entries)
