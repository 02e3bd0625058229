use Rattle.query_cursors.specs.Due.{NoneFree}
use Rattle.query_cursors.proofs.cursors.Cursors.free_place.Given as goal

-- none of the queries so far is due and not claimed
abbrev pub invariant-loop-at : goal.invariant-loop-at
invariant-loop-at l = NoneFree l.self.runs l.queries l.claimed l.moment l.at
