-- For which lists an image stands, and what is then known.
use Rattle.std.specs.Prelude.{◌≡◌, ℕ, true, List, [], ◌∷◌, ◌++◌, set, unwrap_or}
use Rattle.osq_value.specs.declared.value.TheConstants.TableId.{TIME, OSQUERY_SCHEDULE, OSQUERY_EVENTS}
use Rattle.entry_model.specs.declared.entry.Entry.{Entry}
use Rattle.entry_model.specs.declared.entry.Entry.TheVariants.{Opened, Configured, Ticked, Appended, TableSet, Expired, Committed, Acked}
use Rattle.entry_model.specs.Values.{last_number, floor_of, live_events, table_set, schedule_of, has_ticked, moment_of, rules_of}
use Rattle.entry_model.specs.Views.{is_evented_table, is_recorded_table, view_of, reached_of, owed_floor}
use Rattle.entry_model.specs.Legal.{LegalNext, Legal}
use Rattle.entry_model.specs.Summary.{summary}
use Rattle.event_store.specs.Owed.{owed_of}
use Rattle.event_store.specs.Contents.{Contents, Shown, floor_at, live_at, rows_set, Holds, rows_in, cut_above, IsImage}
use Rattle.event_store.specs.Changes.{Appends, with_table, Expires}

-- the image stands for the list
abbrev pub StandsFor : List Entry → Contents → Type 0
StandsFor entries image = Holds (summary entries) image

-- the image changes as the entry says: only these three change it
abbrev pub Follows : Entry → Contents → Contents → Type 0
Follows (Opened session rules) old new = new ≡ old
Follows (Configured document schedule moment) old new = new ≡ old
Follows (Ticked moment) old new = new ≡ old
Follows (Appended source taken events skipped moment) old new = Appends old events moment new
Follows (TableSet source table rows taken) old new = new ≡ with_table old table.0 rows
Follows (Expired table floor moment) old new = Expires old table.0 floor new
Follows (Committed batch) old new = new ≡ old
Follows (Acked upto) old new = new ≡ old

-- an image that changes with each entry stands for the list with it
abbrev pub KeepsUp : Type 0
KeepsUp =
    (entries : List Entry) (entry : Entry) (old new : Contents) → Legal entries → LegalNext entries entry → IsImage old → StandsFor entries old → Follows entry old new → StandsFor (entries ++ entry ∷ []) new

-- what an image holds of a list
pub record HasValues (entries : List Entry) (image : Contents) : Type 0 where
  pub last : image.last ≡ last_number entries
  pub floor : (table : ℕ) → is_evented_table table ≡ true → floor_at image table ≡ floor_of entries table
  pub live : (table : ℕ) → is_evented_table table ≡ true → live_at image table ≡ live_events entries table
  pub rows : (table : ℕ) → is_recorded_table table ≡ true → rows_set image table ≡ unwrap_or (table_set entries table) []
  pub owed : (table : ℕ) → is_evented_table table ≡ true → has_ticked entries ≡ true → rules_of entries ≡ 2 → owed_of (schedule_of entries).events_expiry (schedule_of entries).events_max (moment_of entries) (reached_of entries table) (live_at image table) ≡ owed_floor entries table

abbrev pub Values : Type 0
Values = (entries : List Entry) (image : Contents) → Legal entries → StandsFor entries image → HasValues entries image

-- a view with the computed tables of a list
abbrev pub with_computed : List Entry → ℕ → ℕ → Shown → Shown
with_computed entries above moment shown =
    set (set (set shown TIME.0 (view_of entries above moment TIME.0)) OSQUERY_SCHEDULE.0 (view_of entries above moment OSQUERY_SCHEDULE.0))
    OSQUERY_EVENTS.0 (view_of entries above moment OSQUERY_EVENTS.0)

-- what is cut of an image, with the computed tables, shows what the list does
abbrev pub Shows : Type 0
Shows =
    (entries : List Entry) (image : Contents) → Legal entries → IsImage image → StandsFor entries image → (above moment table : ℕ) → rows_in (with_computed entries above moment (cut_above above image)) table ≡ view_of entries above moment table
