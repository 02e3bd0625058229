use Rattle.std.proofs.Common.{◌≡◌, ◌++◌, map}
use Rattle.sql_meaning.proofs.FrontsLaws.{items_of}
use Rattle.sql_meaning.proofs.firsts.firsts.Given as goal

abbrev pub invariant-loop-front : goal.invariant-loop-front
invariant-loop-front l = l.firsts ++ map items_of l.front-iterator ≡ map items_of l.initial.front-iterator
