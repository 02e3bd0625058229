use Rattle.std.proofs.Common.{◌≡◌, ◌≤◌, ◌-◌, ℕ, Bool, List, length}
use Rattle.collector_core.specs.Received.{HostDigests}
use Rattle.collect_rounds.specs.Rounds.{IsAt}
use Rattle.record_lines.specs.Limits.{PIECE_BYTES, STEP_BYTES}
use Rattle.collect_rounds.specs.Runs.{ROUND_BYTES, Written}
use Rattle.collect_rounds.proofs.Rounding.{GoesOn}
use Rattle.collect_rounds.proofs.rounds.take_round.Given as goal

abbrev pub invariant-loop-read : goal.invariant-loop-read
invariant-loop-read g l = record {
  goes : g.S.Source.tells → g.O.Sink.tells → (recorded : HostDigests) (has_rest : Bool) (given : List ℕ) (before : Written)
      → IsAt recorded has_rest given before (record { ledger = g.O.Sink.written l.fn.ledger; answers = g.O.Sink.written l.fn.answers }) l.fn.collector
      → GoesOn recorded has_rest given (g.S.Source.left l.fn.source) (g.S.Source.left l.source) before (record { ledger = g.O.Sink.written l.ledger; answers = g.O.Sink.written l.answers }) l.collector l.read;
  within : l.read ≤ ROUND_BYTES;
  room : length l.room ≡ PIECE_BYTES;
  source : g.S.Source.faults l.fn.source ≤ g.S.Source.faults l.source;
  ledger : g.O.Sink.faults l.fn.ledger ≤ g.O.Sink.faults l.ledger;
  answers : g.O.Sink.faults l.fn.answers ≤ g.O.Sink.faults l.answers;
}

abbrev pub decreases-loop-read : goal.decreases-loop-read
decreases-loop-read g l = STEP_BYTES - l.read
