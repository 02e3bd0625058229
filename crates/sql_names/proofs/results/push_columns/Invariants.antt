use Rattle.std.proofs.Common.{◌≡◌, ◌++◌, drop, map}
use Rattle.sql_names.specs.Results.{columns_from}
use Rattle.sql_scope.specs.Shown.{shown_of}
use Rattle.sql_names.proofs.results.push_columns.Given as goal

abbrev pub invariant-loop-column : goal.invariant-loop-column
invariant-loop-column l = record {
  counted : l.number ≡ l.column-index;
  here : map shown_of l.shown.items ++ columns_from l.hides l.seen l.number (drop l.column-index l.column-items) ≡ map shown_of l.initial.shown.items ++ columns_from l.hides l.seen 0 l.seen.columns;
}
