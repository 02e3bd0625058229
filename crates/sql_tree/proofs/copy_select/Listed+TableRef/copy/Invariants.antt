use Rattle.std.proofs.Common.{◌≡◌, take, map}
use Rattle.sql_tree.specs.Select.{ref_of}
use Rattle.sql_tree.proofs.copy_select.Listed+TableRef.copy.Given as goal

abbrev pub invariant-loop-source : goal.invariant-loop-source
invariant-loop-source l = map ref_of l.copies ≡ map ref_of (take l.source-index l.source-items)
