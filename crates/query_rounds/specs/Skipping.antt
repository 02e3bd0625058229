-- How many lines of its sources a question skipped.
use Rattle.std.specs.Prelude.{◌≡◌, ℕ, Bool, true, List, [], ◌∷◌}
use Rattle.osq_value.specs.declared.reading.Category.{Category}
use Rattle.publisher_core.specs.declared.record.ReadRecord.{ReadRecord}
use Rattle.publisher_core.specs.Standing.{is_at_end}
use Rattle.source_feeds.specs.Feeding.{Fed, Feeding}
use Rattle.source_feeds.specs.Taking.{TakesAll}
use Rattle.entry_model.specs.declared.restored.Taken.{Taken}
use Rattle.entry_model.specs.Next.{offset_at}
use Rattle.osq_value.specs.declared.source.SourceName.{SourceName}
use Rattle.replay_rounds.specs.Noting.{skipped_lines}
use Rattle.replay_rounds.specs.Sources.{all_over}

-- The feed of a source that had these bytes, and has `rest` of them left: it took exactly these records behind the offset up to which earlier
-- sessions took the source, and counts the lines that they skipped. At the source's end they are all records of the bytes behind that offset.
pub record IsCounted (tells : Type 0) (paths : List Category) (source : SourceName) (bytes rest : List ℕ) (kept : ℕ) (feed : Feeding) : Type 0 where
  pub name : feed.name ≡ source.name
  pub kind : feed.kind ≡ source.kind
  pub paths_are : feed.reader.paths ≡ paths
  pub pieces : List ReadRecord
  pub fed : Fed tells bytes rest feed kept pieces
  pub whole : tells → is_at_end feed.reader ≡ true → TakesAll source.kind paths kept bytes pieces feed.reader.taken

-- each source has such a feed
abbrev pub AreCounted : (tells : Type 0) → List Category → List Taken → List SourceName → List (List ℕ) → List (List ℕ) → List Feeding → Type 0
AreCounted tells paths taken [] [] [] [] = Unit {0}
AreCounted tells paths taken (source ∷ sources) (bytes ∷ others) (rest ∷ rests) (feed ∷ feeds) =
    IsCounted tells paths source bytes rest (offset_at taken source.name) feed × AreCounted tells paths taken sources others rests feeds
AreCounted tells paths taken _ _ _ _ = ⊥

-- a line for each source of which lines were skipped, by its feed
pub record TellsSkipped (tells : Type 0) (paths : List Category) (taken : List Taken) (sources : List SourceName) (all_bytes : List (List ℕ)) (is_end : Bool) (lines : List ℕ) : Type 0 where
  pub rests : List (List ℕ)
  pub feeds : List Feeding
  pub counted : AreCounted tells paths taken sources all_bytes rests feeds
  pub over : is_end ≡ all_over feeds
  pub are : lines ≡ skipped_lines feeds
