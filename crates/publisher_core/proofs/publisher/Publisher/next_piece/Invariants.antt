use Rattle.std.proofs.Common.{◌≡◌, ℕ, List, length}
use Rattle.publisher_core.specs.declared.record.Found.{Found}
use Rattle.publisher_core.specs.Standing.{HasFound}
use Rattle.publisher_core.proofs.publisher.Publisher.next_piece.Given as goal

abbrev pub invariant-loop-piece : goal.invariant-loop-piece
invariant-loop-piece g l = record {
  stands : (given : List Found) → (start : ℕ) → (stream : List ℕ) → HasFound l.fn.self given start stream → HasFound l.self given start stream;
  still : (given : List Found) → (start : ℕ) → (stream : List ℕ) → HasFound l.fn.self given start stream → l.self.taken ≡ l.fn.self.taken;
  same : l.self ≡ record l.fn.self { taken = l.self.taken; cutter = l.self.cutter; gathering = l.self.gathering; ready = l.self.ready };
}

abbrev pub decreases-loop-piece : goal.decreases-loop-piece
decreases-loop-piece g l = length l.self.cutter.ready
