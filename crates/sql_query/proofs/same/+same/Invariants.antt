use Rattle.std.proofs.Common.{◌≡◌, take}
use Rattle.sql_query.specs.View.{steps_of, exprs_of}
use Rattle.sql_query.proofs.same.+same.Given as goal

abbrev pub invariant-are_one_list-loop-at : goal.invariant-are_one_list-loop-at
invariant-are_one_list-loop-at l = exprs_of (take l.at l.exprs) ≡ exprs_of (take l.at l.others)

abbrev pub invariant-are_one_chain-loop-at : goal.invariant-are_one_chain-loop-at
invariant-are_one_chain-loop-at l = steps_of (take l.at l.steps) ≡ steps_of (take l.at l.others)
