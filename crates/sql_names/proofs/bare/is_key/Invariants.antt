use Rattle.std.proofs.Common.{◌≡◌, drop, map}
use Rattle.sql_names.specs.Bare.{is_key}
use Rattle.sql_query.specs.View.{expr_of}
use Rattle.sql_names.proofs.bare.is_key.Given as goal

abbrev pub invariant-loop-key : goal.invariant-loop-key
invariant-loop-key l = is_key (map expr_of l.keys) (expr_of l.expr) ≡ is_key (map expr_of (drop l.key-index l.keys)) (expr_of l.expr)
