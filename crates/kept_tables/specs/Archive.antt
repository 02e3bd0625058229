-- The rows of batches and of the parts of batches, and what seals make of them.
use Rattle.std.specs.Prelude.{◌≡◌, ℕ, ◌==◌, nat_lt, List, [], ◌∷◌, ◌++◌, map, filter, flat_map, fold, Some, is_some}
use Rattle.osq_value.specs.declared.value.Value.{Value}
use Rattle.entry_model.specs.declared.entry.Batch.{Batch}
use Rattle.entry_model.specs.declared.entry.Entry.{Entry}
use Rattle.entry_model.specs.Legal.{Follow, Legal}
use Rattle.entry_model.specs.Summary.{summary}
use Rattle.entry_model.specs.Values.{acked_upto, commits}
use Rattle.batch_keeper.specs.Fetching.{fetched}
use Rattle.kept_tables.specs.declared.counts.Counts.{Counts}
use Rattle.kept_tables.specs.declared.fetching.BatchPart.{BatchPart}
use Rattle.kept_tables.specs.declared.fetching.FoundBatch.{FoundBatch}
use Rattle.kept_tables.specs.Edits.{Edit, Kept, write_counts, add_configured, note_taken, add_events, expire, unset, add_set_part, note_run, add_batch, add_batch_part, acknowledge, is_full, seal_edits}
use Rattle.kept_tables.specs.Fetches.{ShowsBatch, batch_row, is_fetched, part_row}
use Rattle.kept_tables.specs.Groups.{groups}
use Rattle.kept_tables.specs.Keeps.{Keeps}
use Rattle.kept_tables.specs.Rows.{HoldsRows}

-- some rows of the batch of this number
pub record Part : Type 0 where
  pub number : ℕ
  pub rows : List (List Value)

-- the rows that a fetch reads, each table's in the order in which they were added. A batch stands there with its query and without its
-- rows: its row has the place of the query's run, which `note_run` gave it before and which stays
pub record Archive : Type 0 where
  pub batches : List Batch
  pub parts : List Part

abbrev pub without_rows : Batch → Batch
without_rows batch = record batch { rows = [] }

-- the rows after a statement; the others change nothing that a fetch reads but the counts
abbrev pub archived : Archive → Edit → Archive
archived archive (add_batch batch) = record archive { batches = archive.batches ++ without_rows batch ∷ [] }
archived archive (add_batch_part place number rows) = record archive { parts = archive.parts ++ record { number = number; rows = rows } ∷ [] }
archived archive (acknowledge upto) = record archive { parts = filter (λ (part : Part). nat_lt upto part.number) archive.parts }
archived archive (write_counts counts) = archive
archived archive (add_configured place) = archive
archived archive (note_taken source offset) = archive
archived archive (add_events part) = archive
archived archive (expire table floor) = archive
archived archive (unset table) = archive
archived archive (add_set_part part) = archive
archived archive (note_run batch) = archive

abbrev pub all_archived : Archive → List Edit → Archive
all_archived = fold archived

abbrev pub batch_part : Part → BatchPart
batch_part part = record { rows = part.rows }

-- what the statements of a fetch show of the batch of this number
abbrev pub batch_found : Archive → ℕ → FoundBatch
batch_found archive number =
    record {
      batches = map batch_row (filter (λ (batch : Batch). batch.number == number) archive.batches);
      parts = map (λ (part : Part). part_row (batch_part part)) (filter (λ (part : Part). part.number == number) archive.parts);
    }

-- the parts of a batch
abbrev pub parts_of : Batch → List Part
parts_of batch = map (λ (group : List (List Value)). record { number = batch.number; rows = group }) (groups is_full batch.rows)

-- those of these batches that no one has acknowledged
abbrev pub above : ℕ → List Batch → List Batch
above mark batches = filter (λ (batch : Batch). nat_lt mark batch.number) batches

-- the rows are those of a list: each batch has one, and each that is not acknowledged has its parts
pub record Archives (archive : Archive) (entries : List Entry) : Type 0 where
  pub batches : archive.batches ≡ map without_rows (commits entries)
  pub parts : archive.parts ≡ flat_map parts_of (above (acked_upto entries) (commits entries))

-- new tables have no batch
abbrev pub no_archive : Archive
no_archive = record { batches = []; parts = [] }

abbrev pub ArchiveBegins : Type 0
ArchiveBegins = Archives no_archive []

-- a seal makes rows of the list before it to rows of the list with its entries
abbrev pub SealArchives : Type 0
SealArchives =
    (before entries : List Entry) (counts : Counts) (archive : Archive) → Legal before → Follow before entries → Archives archive before →
    Archives (all_archived archive (seal_edits counts entries)) (before ++ entries)

-- the rows of a legal list show the batch that is fetched, where its texts are UTF-8 and its numbers have 64 bits
abbrev pub ArchiveShows : Type 0
ArchiveShows =
    (entries : List Entry) (archive : Archive) (number : ℕ) (batch : Batch) → Legal entries → Archives archive entries → fetched entries number ≡ Some batch → HoldsRows batch.rows →
    ShowsBatch (batch_found archive number) batch

-- the counts tell whether a batch is fetched
abbrev pub FetchIsKnown : Type 0
FetchIsKnown = (entries : List Entry) (kept : Kept) (number : ℕ) → Keeps kept (summary entries) → is_fetched kept.counts number ≡ is_some (fetched entries number)
