use Rattle.std.proofs.Common.{◌≡◌, map, take}
use Rattle.sql_query.specs.View.{expr_of}
use Rattle.sql_meaning.specs.Lent.{values_in}
use Rattle.sql_meaning.specs.Steps.{key_values}
use Rattle.sql_meaning.specs.Worths.{worths}
use Rattle.sql_groups.proofs.keys.worths_in.Given as goal

abbrev pub invariant-loop-expr : goal.invariant-loop-expr
invariant-loop-expr l = worths l.made ≡ key_values (map (λ expr. expr_of expr.now) (take l.expr-index l.exprs)) (values_in l.row)
