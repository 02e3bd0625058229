-- What a session takes of its sources behind a kept list.
use Rattle.std.specs.Prelude.{◌≡◌, ℕ, ◌≤◌, Bool, false, List, [], ◌∷◌, ◌++◌, length, drop, filter, map, bytes_eq}
use Rattle.entry_model.specs.declared.entry.Entry.{Entry}
use Rattle.entry_model.specs.declared.entry.Entry.TheVariants.{Appended, TableSet}
use Rattle.entry_model.specs.Values.{moment_of, taken_from}
use Rattle.publisher_core.specs.declared.record.ReadRecord.{ReadRecord}
use Rattle.publisher_core.specs.Readings.{readings_of}
use Rattle.source_feeds.specs.Taking.{IsBehindLastFeed, Takes}
use Rattle.session_state.specs.Readings.{entry_of}
use Rattle.session_model.specs.Given.{Given, Source}

-- the entry is a reading of the source of this name
abbrev pub is_from : List ℕ → Entry → Bool
is_from name (Appended source taken events skipped moment) = bytes_eq source name
is_from name (TableSet source table rows taken) = bytes_eq source name
is_from name _ = false

-- the readings of one source among these entries, in their order
abbrev pub from_source : List ℕ → List Entry → List Entry
from_source name entries = filter (is_from name) entries

-- One step: no more records than a step may take, and an entry for each of their readings. Of a source that tells its bytes they are the records
-- behind the offset up to which the list has it.
pub record GivesStep (tells : Type 0) (given : Given) (kept : List Entry) (source : Source) (entries : List Entry) : Type 0 where
  pub pieces : List ReadRecord
  pub to : ℕ
  pub few : length pieces ≤ given.records
  pub takes : tells → Takes source.kind given.config.categories (taken_from kept source.name) (drop (taken_from kept source.name) source.bytes) given.records pieces to
  pub are : entries ≡ map (entry_of source.name (moment_of kept)) (readings_of source.kind pieces)

-- a step of each of these sources, one after another
abbrev pub GivesSteps : Type 0 → Given → List Entry → List Source → List Entry → Type 0
GivesSteps tells given kept [] entries = entries ≡ []
GivesSteps tells given kept (source ∷ sources) entries =
    (own others : List Entry) × GivesStep tells given kept source own × GivesSteps tells given (kept ++ own) sources others × (entries ≡ own ++ others)

-- the same of sources that tell their bytes
abbrev pub TakesStep : Given → List Entry → Source → List Entry → Type 0
TakesStep given kept source entries = GivesStep (Unit {0}) given kept source entries

abbrev pub TakesSteps : Given → List Entry → List Source → List Entry → Type 0
TakesSteps given kept sources entries = GivesSteps (Unit {0}) given kept sources entries

-- the list has the source up to behind its last line feed
abbrev pub IsReadWhole : List Entry → List Entry → Source → Type 0
IsReadWhole before after source = IsBehindLastFeed (taken_from before source.name) source.bytes (taken_from after source.name)
