use Rattle.std.proofs.Common.{◌≡◌, drop, map}
use Rattle.sql_tree.specs.Select.{term_of}
use Rattle.sql_names.specs.Kinds.{term_missing}
use Rattle.sql_names.specs.Least.{lesser, least}
use Rattle.sql_names.proofs.faults.terms_missing.Given as goal

abbrev pub invariant-loop-term : goal.invariant-loop-term
invariant-loop-term l = lesser l.place (least (map (term_missing l.count) (map term_of (drop l.term-index l.terms)))) ≡ least (map (term_missing l.count) (map term_of l.terms))
