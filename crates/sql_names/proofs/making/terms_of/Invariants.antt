use Rattle.std.proofs.Common.{◌≡◌, take, map}
use Rattle.sql_tree.specs.Select.{term_of}
use Rattle.sql_query.specs.Resolved.{order_of}
use Rattle.sql_names.specs.Making.{order_by}
use Rattle.sql_scope.specs.Shown.{names_of}
use Rattle.sql_names.proofs.making.terms_of.Given as goal

abbrev pub invariant-loop-term : goal.invariant-loop-term
invariant-loop-term l = map order_of l.made ≡ map (order_by (names_of l.there)) (map term_of (take l.term-index l.terms))
