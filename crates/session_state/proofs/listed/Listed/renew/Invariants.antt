use Rattle.std.proofs.Common.{◌≡◌, length}
use Rattle.session_state.specs.Computed.{schedule_shown}
use Rattle.session_state.specs.Listed.{AreFresh}
use Rattle.session_state.proofs.listed.Listed.renew.Given as goal

-- each part that isn't stale is right
abbrev pub invariant-loop-part : goal.invariant-loop-part
invariant-loop-part l = record {
  long : length l.self.stale ≡ length l.initial.self.stale;
  fresh : AreFresh (schedule_shown l.cursors.runs l.queries) l.self;
}
