-- Which queries of a schedule read the events of each evented table.
use Rattle.std.specs.Prelude.{ℕ, ◌+◌, if◌then◌else◌, List, [], ◌∷◌, map}
use Rattle.osq_value.specs.Catalogue.{evented_ids}
use Rattle.pack_rules.specs.declared.schedule.Scheduled.{Scheduled}
use Rattle.entry_model.specs.Views.{is_reader}

-- the places of those that read the table, where the first of them stands at this place
abbrev pub readers_from : ℕ → ℕ → List Scheduled → List ℕ
readers_from table at [] = []
readers_from table at (scheduled ∷ rest) =
    if is_reader table scheduled then at ∷ readers_from table (at + 1) rest else readers_from table (at + 1) rest

-- those of each evented table
abbrev pub readers_of : List Scheduled → List (List ℕ)
readers_of queries = map (λ table. readers_from table 0 queries) evented_ids
