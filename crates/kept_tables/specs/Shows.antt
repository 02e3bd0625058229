-- Which values the rows of the tables show.
use Rattle.std.specs.Prelude.{◌≡◌, ℕ, List, map}
use Rattle.std.specs.List.{AllByRecursion}
use Rattle.std.specs.List.Sorted.{IsPermutation}
use Rattle.osq_value.specs.declared.value.Value.{Value}
use Rattle.entry_model.specs.declared.restored.Live.{Live}
use Rattle.entry_model.specs.declared.restored.Restored.{Restored}
use Rattle.entry_model.specs.declared.restored.SetTable.{SetTable}
use Rattle.entry_model.specs.Fits.{IsRisingFrom}
use Rattle.kept_tables.specs.declared.counts.Counts.{Counts}
use Rattle.kept_tables.specs.declared.live.LivePart.{LivePart}
use Rattle.kept_tables.specs.declared.restoring.Found.{Found}
use Rattle.kept_tables.specs.Loads.{events_in, tables_in}
use Rattle.kept_tables.specs.Rows.{taken_row, run_row, set_row, IsSetPart, live_row, IsLivePart}

pub record ShowsCounts (counts : Counts) (values : Restored) : Type 0 where
  pub position : counts.position ≡ values.position
  pub sessions : counts.sessions ≡ values.sessions
  pub moment : counts.moment ≡ values.moment
  pub last : counts.last ≡ values.last
  pub floors : counts.floors ≡ values.floors
  pub batches : counts.batches ≡ values.batches
  pub acked : counts.acked ≡ values.acked

-- parts that have these live events
pub record ShowsLive (floors : List ℕ) (found : List (List Value)) (live : List Live) : Type 0 where
  pub parts : List LivePart
  pub held : AllByRecursion IsLivePart parts
  pub are : found ≡ map live_row parts
  pub same : IsPermutation (events_in floors parts) live
  pub rising : IsRisingFrom 0 live

-- parts that have the rows of these tables
pub record ShowsTables (found : List (List Value)) (tables : List SetTable) : Type 0 where
  pub parts : List SetTable
  pub held : AllByRecursion IsSetPart parts
  pub are : found ≡ map set_row parts
  pub same : tables_in parts ≡ tables

-- the rows show these values
pub record Shows (found : Found) (values : Restored) : Type 0 where
  pub counts : ShowsCounts found.counts values
  pub live : ShowsLive found.counts.floors found.live values.live
  pub taken : found.taken ≡ map taken_row values.taken
  pub tables : ShowsTables found.set values.tables
  pub runs : found.runs ≡ map run_row values.runs
