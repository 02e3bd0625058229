use Rattle.std.proofs.Common.{◌≡◌, map, take}
use Rattle.sql_query.specs.View.{expr_of}
use Rattle.sql_groups.proofs.keys.key_exprs.Given as goal

abbrev pub invariant-loop-key : goal.invariant-loop-key
invariant-loop-key l = map (λ expr. expr_of expr.now) l.made ≡ map expr_of (take l.key-index l.keys)
