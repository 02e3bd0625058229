-- What a query sees of a state: the rows of the computed tables beside those of its image.
use Rattle.std.specs.Prelude.{ℕ, List, [], ◌∷◌, length, map, set, Option, Some, None, pos}
use Rattle.osq_value.specs.declared.value.TheConstants.TableId.{TIME, OSQUERY_SCHEDULE, OSQUERY_EVENTS}
use Rattle.osq_value.specs.declared.value.Value.{Value}
use Rattle.osq_value.specs.declared.value.Value.TheVariants.{Int, Text}
use Rattle.osq_value.specs.Catalogue.{evented_ids, table_name}
use Rattle.pack_rules.specs.declared.schedule.Scheduled.{Scheduled}
use Rattle.entry_model.specs.declared.restored.Run.{Run}
use Rattle.query_cursors.specs.Due.{run_of}
use Rattle.event_store.specs.Contents.{Contents, Shown, cut_above, live_at}
use Rattle.session_state.specs.Kept.{Kept}

-- the table `time`
abbrev pub time_shown : ℕ → List (List Value)
time_shown moment = (Int (pos moment) ∷ []) ∷ []

-- a query with the number of its batches and the moment of the last one
abbrev pub query_shown : Scheduled → Option Run → List Value
query_shown scheduled None =
    Text scheduled.key.name ∷ Text scheduled.key.text ∷ Int (pos scheduled.interval) ∷ Int (pos 0) ∷ Int (pos 0) ∷ []
query_shown scheduled (Some run) =
    Text scheduled.key.name ∷ Text scheduled.key.text ∷ Int (pos scheduled.interval) ∷ Int (pos run.count) ∷ Int (pos run.moment) ∷ []

-- the table `osquery_schedule`
abbrev pub schedule_shown : List Run → List Scheduled → List (List Value)
schedule_shown runs queries = map (λ (scheduled : Scheduled). query_shown scheduled (run_of runs scheduled.key)) queries

abbrev pub live_shown : Contents → ℕ → List Value
live_shown image table = Text (table_name table) ∷ Int (pos (length (live_at image table))) ∷ []

-- the table `osquery_events`
abbrev pub events_shown : Contents → List (List Value)
events_shown image = map (live_shown image) evented_ids

-- all tables, with the events above a number, at a moment
abbrev pub shown_by : Kept → ℕ → ℕ → Shown
shown_by s above moment =
    set (set (set (cut_above above s.image) TIME.0 (time_shown moment)) OSQUERY_SCHEDULE.0 (schedule_shown s.counts.runs s.schedule.queries)) OSQUERY_EVENTS.0 (events_shown s.image)
