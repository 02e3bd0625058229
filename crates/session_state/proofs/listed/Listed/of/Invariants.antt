use Rattle.std.proofs.Common.{◌≡◌, ℕ, ◌<◌, length, [], get_or}
use Rattle.std.specs.Fork.{slice_chunk}
use Rattle.session_state.specs.Computed.{schedule_shown}
use Rattle.session_state.proofs.listed.Listed.of.Given as goal

abbrev pub invariant-loop-part : goal.invariant-loop-part
invariant-loop-part l = record {
  count : length l.parts.items ≡ l.part;
  right : (part : ℕ) → part < l.part → get_or l.parts.items part [] ≡ slice_chunk (schedule_shown l.cursors.runs l.queries) 64 part;
}
