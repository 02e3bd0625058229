-- When the rows of the tables are those of a list of entries, and what seals make of that.
use Rattle.std.specs.Prelude.{◌≡◌, ℕ, ◌≤◌, List, [], ◌∷◌, ◌++◌}
use Rattle.std.specs.List.{AllByRecursion}
use Rattle.osq_value.specs.declared.value.Event.{Event}
use Rattle.batch_frames.specs.Texts.{IsHeldValue}
use Rattle.entry_model.specs.declared.entry.Entry.{Entry}
use Rattle.entry_model.specs.declared.entry.Entry.TheVariants.{Appended, TableSet}
use Rattle.entry_model.specs.declared.restored.Live.{Live}
use Rattle.entry_model.specs.declared.restored.Restored.{Restored}
use Rattle.entry_model.specs.Legal.{Follow, Legal}
use Rattle.entry_model.specs.Summary.{summary}
use Rattle.kept_tables.specs.declared.counts.Counts.{Counts}
use Rattle.kept_tables.specs.declared.live.LivePart.{LivePart}
use Rattle.kept_tables.specs.Edits.{Kept, all_made, found_in, last_in, own, seal_edits}
use Rattle.kept_tables.specs.Loads.{events_in, tables_in}
use Rattle.kept_tables.specs.Rows.{HoldsRows, IsLivePart, IsSetPart}
use Rattle.kept_tables.specs.Shows.{Shows, ShowsCounts}

-- no number of the part is above its last one
abbrev pub IsBounded : LivePart → Type 0
IsBounded part = AllByRecursion (λ n. n ≤ last_in part.numbers) part.numbers

-- the parts have the live events of each evented table, in their order
pub record KeepsLive (floors : List ℕ) (parts : List LivePart) (live : List Live) : Type 0 where
  pub held : AllByRecursion IsLivePart parts
  pub bounded : AllByRecursion IsBounded parts
  pub processes : own 0 (events_in floors parts) ≡ own 0 live
  pub sockets : own 1 (events_in floors parts) ≡ own 1 live
  pub files : own 2 (events_in floors parts) ≡ own 2 live

-- all but the counts
pub record KeepsRows (kept : Kept) (values : Restored) : Type 0 where
  pub live : KeepsLive values.floors kept.live values.live
  pub taken : kept.taken ≡ values.taken
  pub held : AllByRecursion IsSetPart kept.set
  pub tables : tables_in kept.set ≡ values.tables
  pub runs : kept.runs ≡ values.runs

-- the rows are those of a list with these values
pub record Keeps (kept : Kept) (values : Restored) : Type 0 where
  pub counts : ShowsCounts kept.counts values
  pub rows : KeepsRows kept values

-- the texts of the rows of an entry are UTF-8, and their numbers have 64 bits
abbrev pub IsHeldEntry : Entry → Type 0
IsHeldEntry (Appended source taken events skipped moment) = AllByRecursion (λ (event : Event). AllByRecursion IsHeldValue event.row) events
IsHeldEntry (TableSet source table rows taken) = HoldsRows rows
IsHeldEntry _ = Unit {0}

-- new tables are those of the empty list
abbrev pub no_counts : Counts
no_counts = record { position = 0; sessions = 0; moment = 0; last = 0; floors = 0 ∷ 0 ∷ 0 ∷ []; batches = 0; acked = 0; parts = 0 }

abbrev pub no_rows : Kept
no_rows = record { counts = no_counts; live = []; taken = []; set = []; runs = [] }

abbrev pub Begins : Type 0
Begins = Keeps no_rows (summary [])

-- a seal makes rows of the list before it to rows of the list with its entries
abbrev pub SealKeeps : Type 0
SealKeeps =
    (before entries : List Entry) (kept : Kept) → Legal before → Follow before entries → AllByRecursion IsHeldEntry entries → Keeps kept (summary before) →
    Keeps (all_made kept (seal_edits kept.counts entries)) (summary (before ++ entries))

-- the rows of a legal list show its values
abbrev pub KeptShows : Type 0
KeptShows = (entries : List Entry) (kept : Kept) → Legal entries → Keeps kept (summary entries) → Shows (found_in kept) (summary entries)
