use Rattle.std.proofs.Common.{◌≡◌, ℕ, ◌<◌, ◌≤◌, length, [], get_or}
use Rattle.std.specs.Fork.{slice_chunk}
use Rattle.session_state.specs.Computed.{schedule_shown}
use Rattle.session_state.proofs.listed.Listed.shown.Given as goal

-- the parts up to this one are right, and the others are those that are kept
abbrev pub invariant-loop-part : goal.invariant-loop-part
invariant-loop-part l = record {
  count : l.rows.count ≡ l.self.rows.count;
  parts : length l.rows.parts ≡ length l.self.rows.parts;
  right : (part : ℕ) → part < l.part → get_or l.rows.parts part [] ≡ slice_chunk (schedule_shown l.cursors.runs l.queries) 64 part;
  kept : (part : ℕ) → l.part ≤ part → get_or l.rows.parts part [] ≡ get_or l.self.rows.parts part [];
}
