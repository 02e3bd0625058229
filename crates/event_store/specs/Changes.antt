-- How an image changes.
use Rattle.std.specs.Prelude.{◌≡◌, ℕ, ◌+◌, ◌==◌, true, if◌then◌else◌, List, ◌++◌, length, set}
use Rattle.osq_value.specs.declared.value.Event.{Event}
use Rattle.osq_value.specs.declared.value.Value.{Value}
use Rattle.entry_model.specs.Views.{is_evented_table}
use Rattle.event_store.specs.Queues.{events_of, above, new_events}
use Rattle.event_store.specs.Recorded.{with_rows}
use Rattle.event_store.specs.Contents.{Contents, live_at}

-- each table has its events more, numbered behind the last one
pub record Appends (old : Contents) (events : List Event) (moment : ℕ) (new : Contents) : Type 0 where
  pub last : new.last ≡ old.last + length events
  pub live : (table : ℕ) → is_evented_table table ≡ true → live_at new table ≡ live_at old table ++ events_of (new_events old.last moment events) table
  pub floors : new.floors ≡ old.floors
  pub tables : new.tables ≡ old.tables

-- one recorded table has these rows
abbrev pub with_table : Contents → ℕ → List (List Value) → Contents
with_table image table rows = record image { tables = with_rows image.tables table rows }

-- the events of one table up to this number are gone
pub record Expires (old : Contents) (table floor : ℕ) (new : Contents) : Type 0 where
  pub floors : new.floors ≡ set old.floors table floor
  pub live : (other : ℕ) → live_at new other ≡ (if other == table then above floor (live_at old other) else live_at old other)
  pub last : new.last ≡ old.last
  pub tables : new.tables ≡ old.tables
