use Rattle.std.proofs.Common.{◌≡◌, drop, map}
use Rattle.sql_names.specs.Bare.{are_keys}
use Rattle.sql_scope.specs.Shown.{shown_of}
use Rattle.sql_query.specs.View.{expr_of}
use Rattle.sql_names.proofs.bare.are_keys.Given as goal

abbrev pub invariant-loop-column : goal.invariant-loop-column
invariant-loop-column l = are_keys (map expr_of l.keys) (map shown_of l.shown) ≡ are_keys (map expr_of l.keys) (map shown_of (drop l.column-index l.shown))
