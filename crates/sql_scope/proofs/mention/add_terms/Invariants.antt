use Rattle.std.proofs.Common.{◌≡◌, ◌++◌, drop, map}
use Rattle.sql_tree.specs.Select.{term_of}
use Rattle.sql_scope.specs.Mentions.{mentions_of_terms}
use Rattle.sql_scope.proofs.mention.add_terms.Given as goal

abbrev pub invariant-loop-term : goal.invariant-loop-term
invariant-loop-term l = l.found.items ++ mentions_of_terms (map term_of (drop l.term-index l.terms)) ≡ l.initial.found.items ++ mentions_of_terms (map term_of l.terms)
