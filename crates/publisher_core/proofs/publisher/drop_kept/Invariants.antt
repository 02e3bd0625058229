use Rattle.std.proofs.Common.{◌≡◌, ◌≤◌, ◌-◌, ◌++◌, ℕ, List, length}
use Rattle.publisher_core.proofs.publisher.drop_kept.Given as goal

abbrev pub invariant-loop-found : goal.invariant-loop-found
invariant-loop-found g l = record {
  within : l.found ≤ l.fn.kept;
  later : g.S.Source.faults l.fn.source ≤ g.S.Source.faults l.source;
  left : g.S.Source.tells → (front : List ℕ) × (length front ≡ l.found) × (g.S.Source.left l.fn.source ≡ front ++ g.S.Source.left l.source);
}

abbrev pub decreases-loop-found : goal.decreases-loop-found
decreases-loop-found g l = l.fn.kept - l.found
