use Rattle.std.proofs.Common.{◌≡◌, ◌++◌, drop, map}
use Rattle.sql_names.specs.Results.{all_columns}
use Rattle.sql_scope.specs.Scope.{AreNarrow}
use Rattle.sql_scope.specs.Shown.{shown_of}
use Rattle.sql_names.proofs.results.push_all.Given as goal

abbrev pub invariant-loop-seen : goal.invariant-loop-seen
invariant-loop-seen l = record {
  narrow : AreNarrow (drop l.seen-index l.scope);
  here : map shown_of l.shown.items ++ all_columns (drop l.seen-index l.scope) ≡ map shown_of l.initial.shown.items ++ all_columns l.scope;
}
