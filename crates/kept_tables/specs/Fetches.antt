-- Which batch the rows of the tables show.
use Rattle.std.specs.Prelude.{◌≡◌, ℕ, Bool, ◌&&◌, nat_le, nat_lt, List, [], ◌∷◌, map}
use Rattle.std.specs.List.{AllByRecursion}
use Rattle.osq_value.specs.declared.value.Value.{Value}
use Rattle.osq_value.specs.declared.value.Value.TheVariants.{Text}
use Rattle.entry_model.specs.declared.entry.Batch.{Batch}
use Rattle.kept_tables.specs.declared.counts.Counts.{Counts}
use Rattle.kept_tables.specs.declared.fetching.BatchPart.{BatchPart}
use Rattle.kept_tables.specs.declared.fetching.FoundBatch.{FoundBatch}
use Rattle.kept_tables.specs.Columns.{number}
use Rattle.kept_tables.specs.Groups.{joined}
use Rattle.kept_tables.specs.Rows.{HoldsRows, mode_number, rows}

-- there is a batch of this number, and it is not acknowledged
abbrev pub is_fetched : Counts → ℕ → Bool
is_fetched counts number = nat_lt counts.acked number && nat_le number counts.batches

-- a batch without its rows, with what its query is known by
abbrev pub batch_row : Batch → List Value
batch_row batch =
    Text batch.query.name ∷ Text batch.query.text ∷ number (mode_number batch.query.mode) ∷ number batch.number ∷ number batch.lo ∷ number batch.hi ∷ number batch.cut ∷ number batch.moment ∷ []

-- some rows of a batch
abbrev pub part_row : BatchPart → List Value
part_row part = rows part.rows ∷ []

abbrev pub IsBatchPart : BatchPart → Type 0
IsBatchPart part = HoldsRows part.rows

-- the rows show this batch
pub record ShowsBatch (found : FoundBatch) (batch : Batch) : Type 0 where
  pub one : found.batches ≡ batch_row batch ∷ []
  pub parts : List BatchPart
  pub held : AllByRecursion IsBatchPart parts
  pub are : found.parts ≡ map part_row parts
  pub same : joined (map (λ (part : BatchPart). part.rows) parts) ≡ batch.rows
