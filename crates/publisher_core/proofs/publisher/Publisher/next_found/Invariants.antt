use Rattle.std.proofs.Common.{◌≡◌, ◌≤◌, ◌+◌, ◌-◌, ℕ, List, [], true, if◌then◌else◌}
use Rattle.publisher_core.specs.declared.record.Found.{Found}
use Rattle.publisher_core.specs.Standing.{HasFound}
use Rattle.record_lines.specs.Limits.{PIECE_BYTES, STEP_BYTES}
use Rattle.publisher_core.specs.Stepping.{SameSource}
use Rattle.publisher_core.proofs.Stepping.{ReadsOn}
use Rattle.publisher_core.proofs.publisher.Publisher.next_found.Given as goal

abbrev pub invariant-loop-one : goal.invariant-loop-one
invariant-loop-one g l = record {
  within : l.read ≤ STEP_BYTES + PIECE_BYTES;
  later : g.S.Source.faults l.fn.source ≤ g.S.Source.faults l.source;
  end : (g.S.Source.tells → l.fn.self.is_ended ≡ true → g.S.Source.left l.fn.source ≡ []) → g.S.Source.tells → l.self.is_ended ≡ true → g.S.Source.left l.source ≡ [];
  same : SameSource l.fn.self l.self;
  still : (before : List Found) → (start : ℕ) → (stream : List ℕ) → HasFound l.fn.self before start stream → l.self.taken ≡ l.fn.self.taken;
  way : (before : List Found) → (start : ℕ) → (stream : List ℕ) → HasFound l.fn.self before start stream
      → ReadsOn g.S.Source.tells (g.S.Source.left l.fn.source) (g.S.Source.left l.source) l.self before start stream l.fn.read l.read;
}

abbrev pub decreases-loop-one : goal.decreases-loop-one
decreases-loop-one g l = (if l.self.is_ended then 0 else 1) + (STEP_BYTES - l.read)
