-- What a session runs from now on.
use Rattle.std.specs.Prelude.{◌≡◌, ℕ, Bool, List, [], ◌∷◌, ◌++◌, map}
use Rattle.osq_config.specs.declared.config.Config.{Config}
use Rattle.pack_rules.specs.declared.host.Host.{Host}
use Rattle.pack_rules.specs.declared.schedule.Schedule.{Schedule}
use Rattle.pack_rules.specs.Schedules.{IsScheduleOf}
use Rattle.sql_meaning.specs.Meaning.{View}
use Rattle.query_answers.specs.Discovery.{is_found}
use Rattle.entry_model.specs.declared.entry.Entry.{Entry}
use Rattle.entry_model.specs.declared.entry.Entry.TheVariants.{Configured}
use Rattle.entry_model.specs.declared.restored.Restored.{Restored}
use Rattle.entry_model.specs.Legal.{Legal}
use Rattle.entry_model.specs.Summary.{summary}
use Rattle.entry_model.specs.Values.{last_number}
use Rattle.entry_model.specs.Views.{view_of}
use Rattle.event_store.specs.Contents.{rows_in}
use Rattle.session_state.specs.Kept.{Kept}
use Rattle.session_state.specs.StateOf.{IsStateOf}
use Rattle.session_state.specs.Computed.{shown_by}
use Rattle.daemon_rounds.specs.Adding.{AddsEntries}

-- the schedule that the configuration gives the host, a pack being found by what its discovery means over this view
abbrev pub IsScheduleOver : Config → Host → View → Schedule → Type 0
IsScheduleOver config host view schedule = IsScheduleOf config host (map (is_found view) config.packs) schedule

-- what discovery sees behind these entries at this moment: their tables, and no event
abbrev pub tables_of : List Entry → ℕ → View
tables_of entries moment = view_of entries (last_number entries) moment

-- which packs discovery finds over the tables of a state at this moment, where no event is seen
abbrev pub found_now : Config → Kept → ℕ → List Bool
found_now config state moment = map (is_found (rows_in (shown_by state state.image.last moment))) config.packs

-- From this moment on the state runs the schedule that the configuration gives the host over its tables. For each list for which the state stands
-- these are the list's tables.
pub record Configures (config : Config) (documents : List (List ℕ)) (host : Host) (moment : ℕ) (old new : Kept) : Type 0 where
  pub schedule : Schedule
  pub of_state : IsScheduleOver config host (rows_in (shown_by old old.image.last moment)) schedule
  pub of_list : (base : Restored) (added : List Entry) → IsStateOf base added old → (before : List Entry) → Legal before → summary before ≡ base → IsScheduleOver config host (tables_of (before ++ added) moment) schedule
  pub brings : AddsEntries old (Configured documents schedule moment ∷ []) new
