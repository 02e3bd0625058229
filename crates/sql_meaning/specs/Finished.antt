-- The steps behind the columns of the result.
use Rattle.std.specs.Prelude.{List, map}
use Rattle.osq_value.specs.declared.value.Value.{Value}
use Rattle.sql_query.specs.Resolved.{QueryTree}
use Rattle.sql_meaning.specs.Expressions.{Environment}
use Rattle.sql_meaning.specs.Steps.{cut, distinct, items_in, ordered, result_row}

-- of rows of the result, each with what it is sorted by: DISTINCT, ORDER BY, and LIMIT with OFFSET
abbrev pub finished : QueryTree → List (List Value) → List (List Value)
finished query made = cut query (map (items_in query) (ordered query (distinct query made)))

-- of what the columns of the result see
abbrev pub seen : QueryTree → List Environment → List (List Value)
seen query environments = finished query (map (result_row query) environments)
