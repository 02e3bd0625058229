-- What keeps a tick from beginning.
use Rattle.std.specs.Prelude.{ℕ, if◌then◌else◌, List, map, filter, find, is_some, unwrap_or, Option, Some, None}
use Rattle.osq_value.specs.Catalogue.{evented_ids}
use Rattle.pack_rules.specs.declared.schedule.Scheduled.{Scheduled}
use Rattle.entry_model.specs.declared.restored.Run.{Run}
use Rattle.entry_model.specs.Views.{is_reader, least_of}
use Rattle.query_cursors.specs.Due as cursors
use Rattle.event_store.specs.Owed.{owed_of}
use Rattle.event_store.specs.Contents.{live_at}
use Rattle.session_state.specs.declared.state.TickRefusal.{TickRefusal}
use Rattle.session_state.specs.declared.state.TickRefusal.TheVariants.{StillDue, ExpiryOwed}
use Rattle.session_state.specs.Kept.{Kept}

-- the place of the first query that is due at the present tick
abbrev pub first_due : Kept → Option ℕ
first_due s = if s.ticked then cursors.first_due s.counts.runs s.schedule.queries s.counts.moment else None

-- up to which number each of the queries that reads the table has read; where none does, up to the last event
abbrev pub reached_by : List Run → List Scheduled → ℕ → ℕ → ℕ
reached_by runs queries last table =
    unwrap_or (least_of (map (λ (scheduled : Scheduled). cursors.cursor_of runs scheduled.key) (filter (is_reader table) queries))) last

abbrev pub reached_at : Kept → ℕ → ℕ
reached_at s table = reached_by s.counts.runs s.schedule.queries s.image.last table

-- up to which number the events of a table are to expire at the present tick
abbrev pub owed_at : Kept → ℕ → Option ℕ
owed_at s table =
    if s.ticked then owed_of s.schedule.events_expiry s.schedule.events_max s.counts.moment (reached_at s table) (live_at s.image table) else None

-- the first table of which events are to expire
abbrev pub first_owed : Kept → Option ℕ
first_owed s = find (λ table. is_some (owed_at s table)) evented_ids

abbrev pub refusal_of : Option ℕ → Option ℕ → Option TickRefusal
refusal_of (Some at) owed = Some (StillDue at)
refusal_of None (Some table) = Some (ExpiryOwed (record { 0 = table }))
refusal_of None None = None

-- the due query first, and then the table
abbrev pub held_back_by : Kept → Option TickRefusal
held_back_by s = refusal_of (first_due s) (first_owed s)
