use Rattle.std.proofs.Common.{◌≡◌, take, map}
use Rattle.sql_tree.specs.View.{tree_of}
use Rattle.sql_names.specs.Results.{term_expr}
use Rattle.sql_scope.specs.Shown.{names_of}
use Rattle.sql_query.specs.View.{expr_of}
use Rattle.sql_names.proofs.making.keys_of.Given as goal

abbrev pub invariant-loop-key : goal.invariant-loop-key
invariant-loop-key l = map expr_of l.made ≡ map (term_expr (names_of l.there)) (map tree_of (take l.key-index l.keys))
