-- For how many commits a state is to have room.
use Rattle.std.specs.Prelude.{ℕ, Bool, not, List, filter, is_some}
use Rattle.pack_rules.specs.declared.schedule.Scheduled.{Scheduled}
use Rattle.entry_model.specs.declared.restored.Run.{Run}
use Rattle.query_cursors.specs.Due.{run_of, is_due_by}

-- the queries that are due
abbrev pub all_due : List Run → ℕ → List Scheduled → List Scheduled
all_due runs moment queries = filter (is_due_by runs moment) queries

abbrev pub is_new : List Run → Scheduled → Bool
is_new runs scheduled = not (is_some (run_of runs scheduled.key))

-- the queries that have no batch
abbrev pub all_new : List Run → List Scheduled → List Scheduled
all_new runs queries = filter (is_new runs) queries
