use Rattle.std.proofs.Common.{◌≡◌, take, map}
use Rattle.osq_value.specs.Described.{column}
use Rattle.sql_query.specs.Resolved.{source_column}
use Rattle.sql_scope.proofs.tables.columns_of_catalogue.Given as goal

abbrev pub invariant-loop-column : goal.invariant-loop-column
invariant-loop-column l = l.seen ≡ map source_column (map column (take l.column-index l.column-items))
