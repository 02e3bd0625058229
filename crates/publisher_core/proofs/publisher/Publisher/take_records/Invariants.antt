use Rattle.std.proofs.Common.{◌≡◌, ◌≤◌, ◌+◌, ◌-◌, ◌++◌, ℕ, List, [], true, length}
use Rattle.std.specs.List.{AllZip}
use Rattle.publisher_core.specs.declared.record.Found.{Found}
use Rattle.publisher_core.specs.declared.record.Record.{Record}
use Rattle.publisher_core.specs.Found.{IsGiven, items_found}
use Rattle.publisher_core.specs.Standing.{HasFound}
use Rattle.record_lines.specs.Limits.{PIECE_BYTES, STEP_BYTES}
use Rattle.publisher_core.specs.Stepping.{GrowsBy, SameSource, UnderWay}
use Rattle.publisher_core.proofs.publisher.Publisher.take_records.Given as goal

abbrev pub invariant-loop-self : goal.invariant-loop-self
invariant-loop-self g l = record {
  within : l.read ≤ STEP_BYTES + PIECE_BYTES;
  few : length l.pieces ≤ l.most;
  later : g.S.Source.faults l.fn.source ≤ g.S.Source.faults l.source;
  end : (g.S.Source.tells → l.fn.self.is_ended ≡ true → g.S.Source.left l.fn.source ≡ []) → g.S.Source.tells → l.self.is_ended ≡ true → g.S.Source.left l.source ≡ [];
  same : SameSource l.fn.self l.self;
  many : List Found;
  each : AllZip (IsGiven l.fn.self.paths) many l.pieces;
  shown : (seen : List Record) → g.W.Watcher.saw l.fn.watcher seen → g.W.Watcher.saw l.watcher (seen ++ items_found many);
  grown : (before : List Found) → (start : ℕ) → (stream : List ℕ) → HasFound l.fn.self before start stream → GrowsBy l.fn.self.taken l.self.taken l.pieces;
  way : (before : List Found) → (start : ℕ) → (stream : List ℕ) → HasFound l.fn.self before start stream
      → UnderWay g.S.Source.tells (g.S.Source.left l.fn.source) (g.S.Source.left l.source) l.self before start stream many l.read;
}

abbrev pub decreases-loop-self : goal.decreases-loop-self
decreases-loop-self g l = l.most - length l.pieces
