use Rattle.std.proofs.Common.{◌≡◌, ◌≤◌, vec_len}
use Rattle.collector_core.specs.Ledgers.{digests_of}
use Rattle.record_lines.specs.Limits.{PIECE_BYTES}
use Rattle.collect_rounds.proofs.Rounding.{HasRun}
use Rattle.collect_rounds.proofs.rounds.collect.Given as goal

abbrev pub invariant-loop : goal.invariant-loop
invariant-loop g l = record {
  runs : g.S.Source.tells → g.O.Sink.tells → HasRun (digests_of l.fn.opened.ledger) l.fn.opened.has_rest (g.S.Source.left l.fn.source) (g.S.Source.left l.source)
      (record { ledger = g.O.Sink.written l.fn.ledger; answers = g.O.Sink.written l.fn.answers }) (record { ledger = g.O.Sink.written l.ledger; answers = g.O.Sink.written l.answers }) l.collector l.counter;
  room : vec_len l.room ≡ PIECE_BYTES;
  source : g.S.Source.faults l.fn.source ≤ g.S.Source.faults l.source;
  ledger : g.O.Sink.faults l.fn.ledger ≤ g.O.Sink.faults l.ledger;
  answers : g.O.Sink.faults l.fn.answers ≤ g.O.Sink.faults l.answers;
}
