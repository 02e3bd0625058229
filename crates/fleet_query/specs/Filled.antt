-- What is filled of a host's tables.
use Rattle.std.specs.Prelude.{ℕ, ◌-◌, nat_le, get_or, if◌then◌else◌, List, []}
use Rattle.osq_value.specs.declared.value.Value.{Value}
use Rattle.fleet_query.specs.declared.view.FleetTables.{FleetTables}

-- the rows of the table of that number; a table of the catalogue has none
abbrev pub rows_in : FleetTables → ℕ → List (List Value)
rows_in tables id = if nat_le 100 id then get_or tables.rows (id - 100) [] else []
