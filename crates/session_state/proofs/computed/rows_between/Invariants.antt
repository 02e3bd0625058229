use Rattle.std.proofs.Common.{◌≡◌, ◌≤◌, drop, take}
use Rattle.session_state.specs.Computed.{schedule_shown}
use Rattle.session_state.proofs.computed.rows_between.Given as goal

abbrev pub invariant-loop-at : goal.invariant-loop-at
invariant-loop-at l = record {
  rows : l.rows ≡ drop l.fn.from (schedule_shown l.cursors.runs (take l.at l.queries));
  past : l.fn.from ≤ l.at;
  within : l.at ≤ l.fn.to;
}
