-- Which queries are due.
use Rattle.std.specs.Prelude.{◌≡◌, ℕ, ◌+◌, ◌<◌, Bool, true, false, not, ◌&&◌, nat_le, List, find, get_or, position, slice_get, Option, Some, None}
use Rattle.std.specs.List.{zip}
use Rattle.std.specs.Option.{option_map_or}
use Rattle.pack_rules.specs.declared.schedule.QueryKey.{QueryKey}
use Rattle.pack_rules.specs.declared.schedule.Scheduled.{Scheduled}
use Rattle.pack_rules.specs.Keys.{same_key}
use Rattle.entry_model.specs.declared.restored.Run.{Run}

-- the run of the query, if it has one
abbrev pub run_of : List Run → QueryKey → Option Run
run_of runs query = find (λ (run : Run). same_key run.key query) runs

-- the query has no run, or its interval has passed since the last one
abbrev pub is_due : Scheduled → Option Run → ℕ → Bool
is_due scheduled None moment = true
is_due scheduled (Some run) moment = nat_le (run.moment + scheduled.interval) moment

abbrev pub is_due_by : List Run → ℕ → Scheduled → Bool
is_due_by runs moment scheduled = is_due scheduled (run_of runs scheduled.key) moment

-- the place of the first query that is due
abbrev pub first_due : List Run → List Scheduled → ℕ → Option ℕ
first_due runs queries moment = position (is_due_by runs moment) queries

-- the place of the first query that is due and not claimed
abbrev pub first_free : List Run → List Scheduled → List Bool → ℕ → Option ℕ
first_free runs queries claimed moment =
    position (λ (pair : Scheduled × Bool). is_due_by runs moment pair.0 && not pair.1) (zip queries claimed)

-- each query before this place is claimed or not due
abbrev pub NoneFree : List Run → List Scheduled → List Bool → ℕ → ℕ → Type 0
NoneFree runs queries claimed moment from =
    (place : ℕ) (scheduled : Scheduled) → place < from → slice_get queries place ≡ Some scheduled → get_or claimed place false ≡ false → is_due_by runs moment scheduled ≡ false

abbrev pub or_else : Option ℕ → Option ℕ → Option ℕ
or_else (Some place) other = Some place
or_else None other = other

-- the query to cut next: the first that is due and not claimed, else the first that is due
abbrev pub next_of : List Run → List Scheduled → List Bool → ℕ → Option ℕ
next_of runs queries claimed moment = or_else (first_free runs queries claimed moment) (first_due runs queries moment)

-- up to which number a query has read the events
abbrev pub cursor_of : List Run → QueryKey → ℕ
cursor_of runs query = option_map_or (λ (run : Run). run.hi) (run_of runs query) 0

-- the number of the query's last batch, or 0
abbrev pub number_of : List Run → QueryKey → ℕ
number_of runs query = option_map_or (λ (run : Run). run.number) (run_of runs query) 0
