-- Where the queries of a schedule have their runs.
use Rattle.std.specs.Prelude.{ℕ, if◌then◌else◌, List, length, map, set, slice_get, Option, Some, None, unwrap_or}
use Rattle.std.specs.Option.{option_map_or}
use Rattle.pack_rules.specs.declared.schedule.QueryKey.{QueryKey}
use Rattle.pack_rules.specs.declared.schedule.Scheduled.{Scheduled}
use Rattle.entry_model.specs.declared.restored.Run.{Run}
pub use Rattle.entry_model.specs.Reserved.{place_of}
use Rattle.entry_model.specs.Reserved.{RunsAndRoom, has_run}

-- the places of the runs of these queries
abbrev pub places_of : List Run → List Scheduled → List (Option ℕ)
places_of runs queries = map (λ (scheduled : Scheduled). place_of runs scheduled.key) queries

-- the run at a place
abbrev pub run_at : List Run → Option ℕ → Option Run
run_at runs None = None
run_at runs (Some place) = slice_get runs place

-- what contracts see of cursors
pub record Indexed : Type 0 where
  pub runs : List Run
  pub room : ℕ  -- for how many more runs there is room
  pub places : List (Option ℕ)  -- of the runs of a schedule's queries, as it was last found

abbrev pub reserved_of : Indexed → RunsAndRoom
reserved_of c = record { runs = c.runs; room = c.room }

-- the run at the place that the query at this place of the schedule has
abbrev pub placed_run : Indexed → ℕ → Option Run
placed_run c at = run_at c.runs (unwrap_or (slice_get c.places at) None)

-- up to which number the query at this place of the schedule has read the events
abbrev pub cursor_at : Indexed → ℕ → ℕ
cursor_at c at = option_map_or (λ (run : Run). run.hi) (placed_run c at) 0

-- the places after a batch of the query at this place of the schedule: a first one makes a run behind the others
abbrev pub places_noted : Indexed → ℕ → QueryKey → List (Option ℕ)
places_noted c at query = if has_run c.runs query then c.places else set c.places at (Some (length c.runs))
