use Rattle.std.proofs.Common.{◌≡◌, drop, map}
use Rattle.sql_tree.specs.Select.{term_of}
use Rattle.sql_names.specs.Bare.{term_bare}
use Rattle.sql_names.specs.Least.{lesser, least}
use Rattle.sql_scope.specs.Shown.{names_of}
use Rattle.sql_query.specs.View.{expr_of}
use Rattle.sql_names.proofs.bare.terms_bare.Given as goal

abbrev pub invariant-loop-term : goal.invariant-loop-term
invariant-loop-term l = lesser l.place (least (map (term_bare (names_of l.names) (map expr_of l.keys)) (map term_of (drop l.term-index l.terms)))) ≡ least (map (term_bare (names_of l.names) (map expr_of l.keys)) (map term_of l.terms))
