use Rattle.std.proofs.Common.{◌≡◌, ◌≤◌}
use Rattle.generated_changes.specs.Generated.{number_after}
use Rattle.generated_changes.specs.Writing.{IsBehind}
use Rattle.generated_changes.proofs.writing.write_lines.Given as goal

abbrev pub invariant-loop-made : goal.invariant-loop-made
invariant-loop-made g l = record {
  number : l.number ≡ number_after l.made l.from;
  behind : g.O.Sink.tells → IsBehind (g.O.Sink.written l.fn.sink) (g.O.Sink.written l.sink) l.from l.made l.held;
  later : g.O.Sink.faults l.fn.sink ≤ g.O.Sink.faults l.sink;
}
