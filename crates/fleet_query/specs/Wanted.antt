-- Which tables of a host are filled for a query.
use Rattle.std.specs.Prelude.{ℕ, ◌+◌, if◌then◌else◌, Bool, true, List, [], Option, Some, None}
use Rattle.osq_value.specs.declared.value.Value.{Value}
use Rattle.batch_frames.specs.declared.frame.Frame.{Frame}
use Rattle.sql_query.specs.Answers.{is_among}
use Rattle.sql_query.specs.Resolved.{QueryTree}
use Rattle.fleet_query.specs.Tables.{rows_at}

-- those that its FROM names; without a query each
abbrev pub is_wanted : Option QueryTree → ℕ → Bool
is_wanted None table = true
is_wanted (Some query) table = is_among table query.sources

abbrev pub wanted_rows : Option QueryTree → List Frame → ℕ → List (List Value)
wanted_rows query frames place = if is_wanted query (100 + place) then rows_at frames place else []
