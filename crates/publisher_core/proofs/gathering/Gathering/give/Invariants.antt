use Rattle.std.proofs.Common.{◌≡◌, ◌∷◌, ◌++◌, map, take, Some}
use Rattle.publisher_core.specs.Gathered.{lone}
use Rattle.publisher_core.proofs.gathering.Gathering.give.Given as goal

abbrev pub invariant-loop-end : goal.invariant-loop-end
invariant-loop-end l = l.records.items ≡ l.fn.records.items ++ record { group = Some l.fn.group; skipped = l.fn.self.inside; end = l.fn.self.last } ∷ map lone (take l.end-index l.end-items)
