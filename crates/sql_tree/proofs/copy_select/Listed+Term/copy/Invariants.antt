use Rattle.std.proofs.Common.{◌≡◌, take, map}
use Rattle.sql_tree.specs.Select.{term_of}
use Rattle.sql_tree.proofs.copy_select.Listed+Term.copy.Given as goal

abbrev pub invariant-loop-term : goal.invariant-loop-term
invariant-loop-term l = map term_of l.copies ≡ map term_of (take l.term-index l.term-items)
